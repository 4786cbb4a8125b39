-- `steps::join_through` maps the sets in place: each turn joins one set more.
use mathlib.Core.Path.{◌≡◌}
use Rattle.rulebook.specs.Steps.{joined}
use Rattle.rulebook.proofs.MapLaws.{mapped}
use Rattle.rulebook.proofs.steps.join_through.Given as goal

abbrev pub invariant-loop-set : goal.invariant-loop-set
invariant-loop-set l = l.sets ≡ mapped (joined l.k l.row) l.initial.sets l.set-index
