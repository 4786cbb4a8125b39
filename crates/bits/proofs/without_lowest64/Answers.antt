-- `bits::without_lowest64` clears the lowest set bit of its number, since `n & (n - 1)` does, and 0 has no bit to clear.
use mathlib.Core.Path.{◌≡◌}
use lib.Pow.{pow_pos}
use Rattle.bits.proofs.LowestBit.{and_less_one}
use borrow.Author.Rules.{rules}
use Rattle.bits.proofs.without_lowest64.Goals as goal

pub returns-then-n-eq0 : goal.returns-then-n-eq0
returns-then-n-eq0 c = let none : c.args.n ≡ 0 = search rules in rw none (and_less_one 64 0 (pow_pos 64))

pub returns : goal.returns
returns c = and_less_one 64 c.args.n c.ranges.n.fits
