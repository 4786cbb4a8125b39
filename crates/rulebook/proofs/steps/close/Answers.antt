-- `steps::close` closes the sets by one step more in each turn.
use native.Mathlib.Numerals.{add-one}
use mathlib.Core.Path.{refl, ap, ◌∙◌}
use Rattle.rulebook.specs.Steps.{through, closed}
use Rattle.rulebook.proofs.steps.close.Goals as goal

pub loop-k-init : goal.loop-k-init
unfolding closed
loop-k-init c = refl

pub loop-k-preserved : goal.loop-k-preserved
unfolding closed
loop-k-preserved c = rw add-one (c.join_through.ensures ∙ ap (through _) c.loop-k.invariant)
