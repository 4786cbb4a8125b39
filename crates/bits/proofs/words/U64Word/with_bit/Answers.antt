-- `with_bit` of `u64` sets one bit of its number: a mask takes the number of a bit modulo 64, and 1 shifted up by k, which is below the
-- width, is 2 ^ k.
use Rattle.bits.proofs.BitLaws.{with_masked_bit}
use Rattle.bits.proofs.words.U64Word.with_bit.Goals as goal

pub returns : goal.returns
returns c = with_masked_bit 6 c.args.self c.args.k
