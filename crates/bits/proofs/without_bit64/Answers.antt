-- `bits::without_bit64` clears one bit of its number: where the bit is set its power is at most the number, and is taken away.
use Prim.Native.Nat.{◌%◌}
use native.Mathlib.Omega.{arith}
use mathlib.Core.Path.{◌≡◌, sym, ◌∙◌}
use mathlib.Core.Bool.{true, false}
use lib.Bits.{mask_lt}
use Rattle.bits.specs.Bits.{bit, without_bit}
use Rattle.bits.proofs.BitLaws.{masked_pow}
use Rattle.bits.proofs.LowestBit.{set_le}
use Rattle.bits.proofs.without_bit64.Goals as goal

pub overflow_shl-result : goal.overflow_shl-result
overflow_shl-result c = omega (arith, mask_lt c.args.k 6)

pub overflow_sub-result : goal.overflow_sub-result
overflow_sub-result c =
    let args = c.args in
    rw (masked_pow 6 args.k) (set_le args.n (args.k % 64) (sym c.bit.ensures ∙ c.if-bit.true))

pub returns-then-bit : goal.returns-then-bit
unfolding without_bit
returns-then-bit c =
    let args = c.args in
    let set : bit args.n (args.k % 64) ≡ true = sym c.bit.ensures ∙ c.if-bit.true in
    rw (masked_pow 6 args.k, set)

pub returns : goal.returns
unfolding without_bit
returns c =
    let args = c.args in
    let unset : bit args.n (args.k % 64) ≡ false = sym c.bit.ensures ∙ c.if-bit.false in
    rw unset
