-- `positions` refuses as the checks do, and leaves jobs that can be planned to `sorted_positions`.
use native.Mathlib.Omega.{arith}
use mathlib.Core.Path.{sym, ◌∙◌}
use Rattle.std.proofs.lemmas.Result.{err_from_is_err_and}
use Rattle.policy.specs.Plans.{jobs_of}
use Rattle.loaded.proofs.CallLaws.{wrong_length, wrong_levels, all_pass}
use Rattle.planning.proofs.Asked.{none_refuses}
use Rattle.planning.proofs.PlannableLaws.{whole_jobs, few_bytes}
use Rattle.planning.proofs.PlanLaws.{checks_refuse, not_plannable, few_jobs, all_jobs}
use Rattle.planning.proofs.positions.Goals as goal

pub returns-in_err-h : goal.returns-in_err-h
returns-in_err-h c =
    let p = err_from_is_err_and c.from_residual.result c.from_residual.ensures.1 in
    let none = c.in_err-h.ensures.ok_part in
    rw (p.1, p.2, none_refuses _ none c.in_err-h.ensures.value)
    (checks_refuse _ _ _ 10 (sym (wrong_length _ _ (rw none at c.as_array.ensures.cases))) (λ e. omega arith))

pub returns-in_err-levels : goal.returns-in_err-levels
returns-in_err-levels c =
    let p = err_from_is_err_and c.from_residual-in_err-levels.result c.from_residual-in_err-levels.ensures.1 in
    let none = c.in_err-levels.ensures.ok_part in
    let size = rw c.in_ok-h.ensures.ok_part at c.as_array.ensures.cases in
    rw (p.1, p.2, none_refuses _ none c.in_err-levels.ensures.value)
    (checks_refuse _ _ _ 20 (sym (wrong_levels _ _ size.long (rw none at c.as_array-2.ensures.cases))) (λ e. omega arith))

pub returns-then-not-are_plannable : goal.returns-then-not-are_plannable
returns-then-not-are_plannable c =
    let size = rw c.in_ok-h.ensures.ok_part at c.as_array.ensures.cases in
    let held = rw c.in_ok-levels.ensures.ok_part at c.as_array-2.ensures.cases in
    let fails = c.if-not-are_plannable.true in
    not_plannable _ _ _ (all_pass _ _ size.long held.long c.args.t.now.given) (sym fails ∙ c.are_plannable.ensures)

pub sorted_positions-requires : goal.sorted_positions-requires
sorted_positions-requires c =
    let size = rw c.in_ok-h.ensures.ok_part at c.as_array.ensures.cases in
    let held = rw c.in_ok-levels.ensures.ok_part at c.as_array-2.ensures.cases in
    let bytes = c.args.jobs.now in
    let can = sym c.if-not-are_plannable.false ∙ c.are_plannable.ensures in
    let jobs = jobs_of bytes in
    let all = all_jobs _ jobs can in
    let few = few_bytes bytes (few_jobs _ jobs can) in
    (omega arith, whole_jobs _ bytes all, all)

pub returns : goal.returns
returns c =
    let size = rw c.in_ok-h.ensures.ok_part at c.as_array.ensures.cases in
    let held = rw c.in_ok-levels.ensures.ok_part at c.as_array-2.ensures.cases in
    rw (size.same, held.same) at c.sorted_positions.ensures
