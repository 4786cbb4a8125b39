-- `sets::level_of` answers the level of a set: 1 more than a rank in unary has the bit of the rank's number alone.
use Prim.Native.Nat.{◌/◌}
use native.Mathlib.Omega.{arith}
use lib.Bits.{mask_lt}
use Rattle.level.proofs.SetLaws.{read_back}
use Rattle.level.proofs.sets.level_of.Goals as goal

pub overflow_add-set : goal.overflow_add-set
overflow_add-set c = omega (arith, mask_lt c.args.set 15)

pub overflow_cast-rank : goal.overflow_cast-rank
overflow_cast-rank c = omega (arith, mask_lt c.lowest64-rank.result 4)

pub overflow_cast-compartments : goal.overflow_cast-compartments
overflow_cast-compartments c = omega (arith, mask_lt (c.args.set / 32768) 12)

pub returns : goal.returns
returns c = λ a mark l is. read_back a mark l is c.lowest64-rank.ensures c.new.ensures
