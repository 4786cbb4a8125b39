-- `Level::rank` answers the rank: a shift down by 12 divides by 2 ^ 12.
use mathlib.Core.Path.{refl}
use Rattle.level.specs.Levels.{rank_of}
use Rattle.level.proofs.Level.rank.Goals as goal

pub returns : goal.returns
unfolding rank_of
returns c = refl
