-- `with_bit` of `u16` sets one bit of its number: a mask takes the number of a bit modulo 16, and 1 shifted up by k, which is below the
-- width, is 2 ^ k.
use Rattle.bits.proofs.BitLaws.{with_masked_bit}
use Rattle.bits.proofs.words.U16Word.with_bit.Goals as goal

pub returns : goal.returns
returns c = with_masked_bit 4 c.args.self c.args.k
