-- `next` answers the steps that may be next, if the pipeline is in force.
use mathlib.Core.Path.{refl, sym, ◌∙◌}
use Rattle.policy.specs.Tables.{in_force}
use Rattle.gathering.proofs.GatheredLaws.{unasked, has_next}
use Rattle.gathering.proofs.next.Goals as goal

pub returns-then-not-in_force : goal.returns-then-not-in_force
unfolding in_force
returns-then-not-in_force c = λ H kept. unasked _ _ _ _ _ _ (sym c.in_force.ensures ∙ c.if-not-in_force.true) refl

pub returns : goal.returns
returns c = has_next _ _ _ _ refl c.next_by.ensures
