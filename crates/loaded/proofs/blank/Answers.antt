-- `blank` is `blank_number` and leaves `blank_state`: nothing changes where a length is another one, and otherwise the history is all zero
-- and the levels are the first ones.
use mathlib.Core.Path.{ap, ◌∙◌}
use lib.ListN.{length}
use Rattle.std.proofs.lemmas.Result.{err_from_is_err_and}
use Rattle.policy.specs.History.{zeros}
use Rattle.policy.specs.Levels.{first_levels}
use Rattle.questions.proofs.Answered.{never_zero}
use Rattle.loaded.proofs.CallLaws.{all_pass, blank_refused, blank_made}
use Rattle.loaded.proofs.Lent.{history_refused, levels_refused}
use Rattle.loaded.proofs.blank.Goals as goal

pub returns-in_err-h : goal.returns-in_err-h
returns-in_err-h c =
    let p = err_from_is_err_and c.from_residual.result c.from_residual.ensures.1 in
    let checks = history_refused c.args.t.now.tables c.args.h.now c.args.levels.now _ _ c.in_err-h.ensures.value c.as_mut_array.ensures.cases in
    rw (p.1, p.2) (blank_refused _ _ _ checks (never_zero c.in_err-h.field-0.0))

pub returns-in_err-levels : goal.returns-in_err-levels
returns-in_err-levels c =
    let p = err_from_is_err_and c.from_residual-in_err-levels.result c.from_residual-in_err-levels.ensures.1 in
    let h = rw c.in_ok-h.ensures.ok_part at c.as_mut_array.ensures.cases in
    let checks =
    levels_refused c.args.t.now.tables c.args.h.now c.args.levels.now _ h.long _ c.in_err-levels.ensures.value c.as_mut_array-2.ensures.cases in
    rw (p.1, p.2, h.same) (blank_refused _ _ _ checks (never_zero c.in_err-levels.field-0.0))

pub returns : goal.returns
returns c =
    let h = rw c.in_ok-h.ensures.ok_part at c.as_mut_array.ensures.cases in
    let l = rw c.in_ok-levels.ensures.ok_part at c.as_mut_array-2.ensures.cases in
    blank_made c.args.t.now.tables c.args.h.now c.args.levels.now (all_pass _ _ h.long l.long c.args.t.now.given)
    (c.blank.ensures ∙ ap zeros (ap length h.same)) (c.set_first.ensures ∙ ap (first_levels c.args.t.now.tables) l.same)
