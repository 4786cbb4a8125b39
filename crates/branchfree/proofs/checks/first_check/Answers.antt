-- `first_check` is the first check that fails: the bits are those of the six tests, and its place is that of the lowest.
use lib.Bits.{bit_or}
use Rattle.branchfree.proofs.FailingLaws.{first_below, first_is}
use Rattle.branchfree.proofs.checks.first_check.Goals as goal

pub returns : goal.returns
returns c = (
  rw c.lowest64.ensures (first_below (bit_or (bit_or c.args.unknown c.args.level) c.args.others)),
  λ x unknown level others. rw (c.lowest64.ensures, unknown, level, others) (first_is x),
)
