-- `done` answers the steps done by declared persons, if the pipeline is in force.
use mathlib.Core.Path.{refl, sym, ◌∙◌}
use Rattle.policy.specs.Tables.{in_force}
use Rattle.gathering.proofs.GatheredLaws.{unasked, has_done}
use Rattle.gathering.proofs.done.Goals as goal

pub returns-then-not-in_force : goal.returns-then-not-in_force
unfolding in_force
returns-then-not-in_force c = unasked _ _ _ _ _ _ (sym c.in_force.ensures ∙ c.if-not-in_force.true) refl

pub returns : goal.returns
returns c =
    has_done _ _ _ _ c.fits-h c.persons.ensures c.done_by.ensures
