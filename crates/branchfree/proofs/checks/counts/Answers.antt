-- `counts` is 1 where both of its tests hold.
use mathlib.Core.Bool.{not}
use Rattle.branchfree.proofs.FailingLaws.{as_one, and_ones}
use Rattle.branchfree.proofs.checks.counts.Goals as goal

pub returns : goal.returns
returns c = λ b e. and_ones (not c.args.public) b (as_one _ c.from.ensures) e
