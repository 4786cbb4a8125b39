-- `holders` turns the rights of the roles round, if roles are in force.
use mathlib.Core.Path.{refl, sym, ◌∙◌}
use Rattle.policy.specs.Tables.{in_force}
use Rattle.gathering.proofs.GatheredLaws.{unasked, has_holders}
use Rattle.gathering.proofs.holders.Goals as goal

pub returns-then-not-in_force : goal.returns-then-not-in_force
unfolding in_force
returns-then-not-in_force c = unasked _ _ _ _ _ _ (sym c.in_force.ensures ∙ c.if-not-in_force.true) refl

pub returns : goal.returns
returns c = has_holders _ _ _ c.role_rows-rows.ensures c.turn.ensures
