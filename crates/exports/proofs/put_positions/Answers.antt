-- `put_positions` copies 64 bytes over the first 64 of as many or more.
use mathlib.Core.Path.{sym, ◌∙◌}
use lib.Seq.{length-take-le}
use Rattle.exports.proofs.put_positions.Goals as goal

pub copy_from_slice-requires : goal.copy_from_slice-requires
copy_from_slice-requires c = length-take-le 64 c.args.positions.now c.requires ∙ sym c.told-found
