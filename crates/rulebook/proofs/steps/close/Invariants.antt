-- `steps::close` closes the sets by one step more in each turn.
use mathlib.Core.Path.{◌≡◌}
use Rattle.rulebook.specs.Steps.{closed}
use Rattle.rulebook.proofs.steps.close.Given as goal

abbrev pub invariant-loop-k : goal.invariant-loop-k
invariant-loop-k l = l.all ≡ closed l.k l.initial.all
