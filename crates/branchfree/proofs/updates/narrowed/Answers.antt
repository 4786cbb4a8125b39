-- `narrowed` is the part of the set in the other, or the set.
use native.Mathlib.Omega.{arith}
use Rattle.branchfree.proofs.UpdateLaws.{narrow}
use Rattle.branchfree.proofs.updates.narrowed.Goals as goal

pub returns : goal.returns
returns c = λ b e. narrow b c.args.set c.args.other (omega arith) (omega arith) e
