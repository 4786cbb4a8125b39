-- `holding` turns the rows of the roles' holders round, if roles are in force.
use mathlib.Core.Path.{refl, sym, ◌∙◌}
use Rattle.policy.specs.Tables.{in_force}
use Rattle.gathering.proofs.GatheredLaws.{unasked, has_holding}
use Rattle.gathering.proofs.holding.Goals as goal

pub returns-then-not-in_force : goal.returns-then-not-in_force
unfolding in_force
returns-then-not-in_force c = unasked _ _ _ _ _ _ (sym c.in_force.ensures ∙ c.if-not-in_force.true) refl

pub returns : goal.returns
returns c =
    has_holding _ _ c.args.t.now.given _ _ _ _ c.kind_groups-kinds.ensures c.persons.ensures c.users-users.ensures
    c.role_rows-roles.ensures _ _ c.holder_rows-rows.ensures c.turn.ensures
