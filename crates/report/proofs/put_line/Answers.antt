-- `report::put_line` puts the line of a request into a buffer: it needs at most 32 bytes.
use native.Mathlib.Omega.{arith}
use Rattle.report.specs.Text.{space, line}
use Rattle.report.proofs.LineLaws.{line_length}
use borrow.Author.Rules.{rules}
use Rattle.report.proofs.put_line.Goals as goal

pub put_two_numbers-requires : goal.put_two_numbers-requires
unfolding line space
put_two_numbers-requires c =
    let start = c in
    rw c.from.ensures
    (omega (arith, c.requires, line_length c.args.place c.args.number (search rules) (search rules)))

pub returns : goal.returns
unfolding line space
returns c = rw c.from.ensures at c.put_two_numbers.ensures
