-- `records::number16` adds two bytes up as their little-endian number.
use native.Mathlib.Omega.{arith}
use Rattle.rulebook.proofs.ByteLaws.{two_bytes}
use Rattle.rulebook.proofs.records.number16.Goals as goal

pub returns : goal.returns
returns c = omega (arith, two_bytes c.args.at c.args.book.now, c.from_le_bytes.ensures)
