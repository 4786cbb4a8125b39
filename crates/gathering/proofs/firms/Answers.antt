-- `firms` turns the openers of the firms round, if the wall is in force.
use mathlib.Core.Path.{refl, sym, ◌∙◌}
use Rattle.policy.specs.Tables.{in_force}
use Rattle.gathering.proofs.GatheredLaws.{unasked, has_firms}
use Rattle.gathering.proofs.firms.Goals as goal

pub returns-then-not-in_force : goal.returns-then-not-in_force
unfolding in_force
returns-then-not-in_force c = unasked _ _ _ _ _ _ (sym c.in_force.ensures ∙ c.if-not-in_force.true) refl

pub returns : goal.returns
returns c =
    has_firms _ _ _ _ _ c.firm_groups-groups.ensures c.openers-sets.ensures c.turn.ensures
