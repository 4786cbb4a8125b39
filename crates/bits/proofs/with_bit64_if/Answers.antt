-- `bits::with_bit64_if` sets the bit where it is asked to, and leaves the number otherwise: 1 shifted up is the bit, and 0 shifted up is 0.
use native.Mathlib.Omega.{arith}
use lib.Bits.{mask_lt}
use mathlib.Core.Path.{◌∙◌}
use Rattle.bits.proofs.BitLaws.{with_masked_bit_if}
use Rattle.bits.proofs.Booleans.{from_bool_cond}
use Rattle.bits.proofs.with_bit64_if.Goals as goal

pub overflow_shl-result : goal.overflow_shl-result
overflow_shl-result c = omega (arith, mask_lt c.args.k 6)

pub returns : goal.returns
returns c = with_masked_bit_if 6 _ _ _ c.args.add (c.from.ensures ∙ from_bool_cond c.args.add)
