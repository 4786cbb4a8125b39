-- `wall_check` has its bit where the wall is in force and asks about the request, a firm of the class is counted, and the own one is not.
use mathlib.Core.Path.{sym, ◌∙◌}
use lib.Dec.{eqb, lit<}
use lib.Bits.{bit_and}
use mathlib.Core.Bool.{not, ◌&&◌}
use Prim.Native.Nat.{◌%◌}
use Rattle.bits.specs.Bits.{bit}
use Rattle.branchfree.specs.Failing.{rivals}
use Rattle.policy.specs.Tables.{wall_rule}
use Rattle.branchfree.proofs.FailingLaws.{as_one, and_ones, shifted, in_force_lem, not_in_force}
use Rattle.branchfree.proofs.checks.wall_check.Goals as goal

pub returns-then-in_force : goal.returns-then-in_force
unfolding rivals
returns-then-in_force c =
    λ b e.
    let args = c.args in
    let some = not (eqb (bit_and args.counted args.class) 0) in
    let other = not (bit args.counted (args.firm % 64)) in
    shifted 2 ((some && other) && b) (lit< tt)
    (and_ones (some && other) b
    (and_ones some other (as_one some c.from-some.ensures) (as_one other (rw c.bit.ensures at c.from-other.ensures))) e)
    ∙ in_force_lem (bit args.mask wall_rule) ((some && other) && b) 2
    (sym c.in_force.ensures ∙ c.if-in_force.true)

pub returns : goal.returns
returns c =
    λ b e.
    let args = c.args in
    not_in_force (bit args.mask wall_rule) (rivals args.counted args.class args.firm && b) 2 (sym c.in_force.ensures ∙
    c.if-in_force.false)
