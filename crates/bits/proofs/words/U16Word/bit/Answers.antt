-- `bit` of `u16` answers the bit of its number: a mask takes the number of a bit modulo 16, and a number that is shifted down by k has
-- bit k as its lowest.
use Rattle.bits.proofs.BitLaws.{masked_bit}
use Rattle.bits.proofs.words.U16Word.bit.Goals as goal

pub returns : goal.returns
returns c = masked_bit 4 c.args.self c.args.k
