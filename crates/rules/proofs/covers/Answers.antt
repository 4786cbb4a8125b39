-- `covers` is the test of its definition.
use mathlib.Core.Path.{refl}
use Rattle.rules.specs.Sets.{covers}
use Rattle.rules.proofs.covers.Goals as goal

pub returns : goal.returns
unfolding covers
returns c = refl
