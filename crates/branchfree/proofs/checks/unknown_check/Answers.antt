-- `unknown_check` is 1 where a number is out of range or a set is marked.
use mathlib.Core.Bool.{◌||◌}
use Rattle.branchfree.proofs.FailingLaws.{as_one, or_ones}
use Rattle.branchfree.proofs.checks.unknown_check.Goals as goal

pub returns : goal.returns
returns c =
    λ a b m n out l k rules has e.
    or_ones out (m || n) e (as_one (m || n) (rw (c.marked.ensures a b m n l k rules has) at c.from.ensures))
