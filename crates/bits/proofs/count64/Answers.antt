-- `bits::count64` counts the set bits of its number: `u64::count_ones` gives the sum of the binary digits, of which a u64 has 64.
use Rattle.bits.proofs.BitLaws.{ones_count}
use Rattle.bits.proofs.count64.Goals as goal

pub returns : goal.returns
returns c = ones_count 64 c.args.n c.ranges.n.fits
