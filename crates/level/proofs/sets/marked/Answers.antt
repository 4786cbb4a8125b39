-- `sets::marked` tells that one of two sets is marked: "or" of both has the bit of the mark where one of them has it.
use Rattle.level.proofs.SetLaws.{either_marked}
use Rattle.level.proofs.sets.marked.Goals as goal

pub returns : goal.returns
returns c = λ a b m n la lb needed own. rw (needed, own) (either_marked a b m n la lb)
