-- `number` reads the list of the numbers.
use mathlib.Core.Path.{refl}
use Rattle.branchfree.specs.Failing.{number_at}
use Rattle.branchfree.proofs.checks.number.Goals as goal

pub returns : goal.returns
unfolding number_at
returns c = refl
