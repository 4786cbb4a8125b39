-- `records::number64` adds eight bytes up as their little-endian number.
use native.Mathlib.Omega.{arith}
use Rattle.rulebook.proofs.ByteLaws.{eight_bytes}
use Rattle.rulebook.proofs.records.number64.Goals as goal

pub returns : goal.returns
returns c = omega (arith, eight_bytes c.args.at c.args.book.now, c.from_le_bytes.ensures)
