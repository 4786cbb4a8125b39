-- `may_precede` is every rule on pairs.
use mathlib.Core.Path.{ap₂}
use mathlib.Core.Bool.{◌&&◌}
use Rattle.listed.specs.Pairs.{precedes}
use Rattle.listed.proofs.pairs.may_precede.Goals as goal

pub returns : goal.returns
unfolding precedes
returns c = ap₂ ◌&&◌ c.levels_permit.ensures c.steps_permit.ensures
