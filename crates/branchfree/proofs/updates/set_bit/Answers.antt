-- `set_bit` sets the bit where all bits are handed in: the lowest of them is shifted to its place.
use native.Mathlib.Omega.{arith}
use mathlib.Core.Path.{refl, ◌∙◌}
use mathlib.Core.Bool.{true}
use lib.Bits.{mask_lt}
use Rattle.branchfree.proofs.UpdateLaws.{and-true, masked_one, set_if}
use Rattle.branchfree.proofs.updates.set_bit.Goals as goal

pub overflow_cast-one : goal.overflow_cast-one
overflow_cast-one c = omega (arith, mask_lt c.args.all 1)

pub overflow_cast-h : goal.overflow_cast-h
overflow_cast-h c = omega (arith, mask_lt c.args.i 3)

pub overflow_shl-h : goal.overflow_shl-h
overflow_shl-h c = mask_lt c.args.i 3

pub returns : goal.returns
returns c = λ b e. set_if b c.args.h.now c.args.i _ (masked_one b true e refl ∙ and-true b)
