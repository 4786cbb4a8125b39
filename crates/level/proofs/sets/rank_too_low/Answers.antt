-- `sets::rank_too_low` tells that a rank is not at most another: in unary it is then no part of the other.
use mathlib.Core.Path.{ap}
use mathlib.Core.Bool.{not}
use Rattle.level.proofs.SetLaws.{rank_part}
use Rattle.level.proofs.sets.rank_too_low.Goals as goal

pub returns : goal.returns
returns c = λ a b m n la lb needed own. rw (needed, own) (ap not (rank_part a b m n la lb))
