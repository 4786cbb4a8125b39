-- `pipeline_check` has its bit where the pipeline is in force, a step is asked for, and it may not be done next.
use mathlib.Core.Path.{sym, ◌∙◌}
use lib.Dec.{lit<}
use mathlib.Core.Bool.{not, ◌&&◌}
use Prim.Native.Nat.{◌%◌}
use Rattle.bits.specs.Bits.{bit}
use Rattle.policy.specs.Tables.{pipeline_rule}
use Rattle.branchfree.proofs.FailingLaws.{as_one, and_ones, shifted, in_force_lem, not_in_force}
use Rattle.branchfree.proofs.checks.pipeline_check.Goals as goal

pub returns-then-in_force : goal.returns-then-in_force
returns-then-in_force c =
    λ b e.
    let args = c.args in
    let refused = not (bit args.next (args.p % 64)) in
    shifted 32 (refused && b) (lit< tt)
    (and_ones refused b (as_one refused (rw c.bit.ensures at c.from.ensures)) e)
    ∙ in_force_lem (bit args.mask pipeline_rule) (refused && b) 32
    (sym c.in_force.ensures ∙ c.if-in_force.true)

pub returns : goal.returns
returns c =
    λ b e.
    let args = c.args in
    not_in_force (bit args.mask pipeline_rule) (not (bit args.next (args.p % 64)) && b) 32 (sym c.in_force.ensures ∙ c.if-in_force.false)
