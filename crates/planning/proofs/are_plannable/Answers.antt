-- `are_plannable` asks one job after another: before turn i each of the jobs below i can be planned.
use Prim.Native.Nat.{◌*◌, ◌/◌}
use native.Mathlib.Omega.{arith}
use mathlib.Core.Path.{◌≡◌, sym, ap, ◌∙◌}
use lib.ListN.{length}
use Rattle.planning.proofs.PlannableLaws.{planned, planned_more, too_long_lem, cut_short, not_planned, all_planned}
use borrow.Author.Rules.{rules}
use Rattle.planning.proofs.are_plannable.Goals as goal

pub returns-then-left-gt256 : goal.returns-then-left-gt256
returns-then-left-gt256 c = too_long_lem _ _ (search rules)

pub returns-then-left-ne0 : goal.returns-then-left-ne0
returns-then-left-ne0 c = cut_short _ _ (search rules)

pub loop-i-init : goal.loop-i-init
loop-i-init c = (search rules, λ i l. let z : ⊥ = omega arith in absurd z)

pub returns-then-not-is_plannable : goal.returns-then-not-is_plannable
returns-then-not-is_plannable c =
    let bytes = c.args.jobs.now in
    let whole : length bytes ≡ 4 * (length bytes / 4) = omega (arith, c.if-left-ne0.false) in
    not_planned _ bytes (length bytes / 4) c.loop-i.i whole (omega arith)
    (ap (planned c.args.t.now) (sym c.job_at.ensures) ∙ sym c.is_plannable.ensures ∙ c.if-not-is_plannable.true)

pub loop-i-preserved : goal.loop-i-preserved
loop-i-preserved c =
    let bytes = c.args.jobs.now in (
      search rules,
      planned_more _ bytes c.loop-i.i c.loop-i.invariant.1
          (ap (planned c.args.t.now) (sym c.job_at.ensures) ∙ sym c.is_plannable.ensures ∙ c.if-not-is_plannable.false),
    )

pub returns : goal.returns
returns c =
    let bytes = c.args.jobs.now in
    let whole : length bytes ≡ 4 * (length bytes / 4) = omega (arith, c.if-left-ne0.false) in
    let all : c.loop-i.i ≡ length bytes / 4 = omega arith in
    all_planned _ bytes (length bytes / 4) whole (omega (arith, c.if-left-gt256.false)) (rw all at c.loop-i.invariant.1)
