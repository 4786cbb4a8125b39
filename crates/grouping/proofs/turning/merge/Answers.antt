-- `merge` takes each column's bit from one of two rows, since the mask has the columns whose digit is 0.
use Rattle.grouping.proofs.TurningLaws.{merge_by}
use Rattle.grouping.proofs.turning.merge.Goals as goal

pub returns : goal.returns
returns g c = merge_by _ _ _ c.requires
