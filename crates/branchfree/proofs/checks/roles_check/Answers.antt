-- `roles_check` has its bit where roles are in force and the two sets have no role in common.
use mathlib.Core.Path.{sym, ◌∙◌}
use lib.Dec.{eqb, lit<}
use lib.Bits.{bit_and}
use Rattle.bits.specs.Bits.{bit}
use Rattle.policy.specs.Tables.{roles_rule}
use Rattle.branchfree.proofs.FailingLaws.{as_one, shifted, in_force_lem, not_in_force}
use Rattle.branchfree.proofs.checks.roles_check.Goals as goal

pub returns-then-in_force : goal.returns-then-in_force
returns-then-in_force c =
    let args = c.args in
    let none = eqb (bit_and args.holding args.holders) 0 in
    shifted 16 none (lit< tt) (as_one none c.from.ensures)
    ∙ in_force_lem (bit args.mask roles_rule) none 16 (sym c.in_force.ensures ∙ c.if-in_force.true)

pub returns : goal.returns
returns c =
    let args = c.args in
    not_in_force (bit args.mask roles_rule) (eqb (bit_and args.holding args.holders) 0) 16 (sym c.in_force.ensures ∙ c.if-in_force.false)
