-- `bits::lowest64` answers the lowest set bit of its number: as many zeros as `u64::trailing_zeros` counts, at most 64, stand below it.
use native.Mathlib.Nat.{lt_of_le_of_lt}
use native.Mathlib.Omega.{arith}
use lib.Count.{trailing_le}
use Rattle.bits.proofs.LowestBit.{trailing_lowest}
use Rattle.bits.proofs.lowest64.Goals as goal

pub overflow_cast-result : goal.overflow_cast-result
overflow_cast-result c = record { fits = lt_of_le_of_lt (trailing_le 64 _) (omega arith) }

pub returns : goal.returns
returns c = trailing_lowest 64 c.args.n
