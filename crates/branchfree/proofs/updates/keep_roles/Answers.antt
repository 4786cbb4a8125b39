-- `keep_roles` narrows the roles to those that hold the right, where roles are in force and the request is granted.
use mathlib.Core.Path.{sym, ap, ◌∙◌}
use lib.ListN.{set}
use Rattle.branchfree.proofs.updates.keep_roles.Goals as goal

pub returns-then-in_force : goal.returns-then-in_force
returns-then-in_force c =
    λ b e.
    let args = c.args in
    rw (sym c.in_force.ensures ∙ c.if-in_force.true)
    (ap (set args.holding.now args.s) (c.narrowed.ensures b e))

pub returns-else-in_force : goal.returns-else-in_force
returns-else-in_force c = λ b e. rw (sym c.in_force.ensures ∙ c.if-in_force.false)
