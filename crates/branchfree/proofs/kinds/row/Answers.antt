-- `row` reads a number of the row of a kind: its place is the kind's modulo 4.
use Rattle.branchfree.specs.Kinds.{kind_rows, row_of}
use Rattle.branchfree.proofs.kinds.row.Goals as goal

pub returns : goal.returns
unfolding row_of kind_rows
returns c = rw c.from.ensures
