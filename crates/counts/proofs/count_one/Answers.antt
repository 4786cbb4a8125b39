-- `count_one` raises the count of a firm and a number. A place past the end changes nothing, as in the definition: nothing is set there.
use native.Mathlib.Omega.{arith}
use mathlib.Core.Path.{sym}
use lib.Seq.{set_out}
use borrow.Author.Tests.{le-ltb}
use Rattle.counts.specs.Counting.{raised_at, with_one}
use Rattle.counts.proofs.count_one.Goals as goal

pub returns-then-place-counts : goal.returns-then-place-counts
unfolding with_one raised_at
returns-then-place-counts c =
    rw (le-ltb 64 c.args.firm (omega arith), le-ltb 31 c.args.number (omega arith), c.raise_at.ensures)

pub returns-else-place-counts : goal.returns-else-place-counts
unfolding with_one raised_at
returns-else-place-counts c =
    rw (le-ltb 64 c.args.firm (omega arith), le-ltb 31 c.args.number (omega arith))
    (sym (set_out _ _ _ c.if-place-counts.false))
