-- `report::put_book_refused` puts the line of a book's refusal into a buffer that has room for it: its first word, and then the numbers.
use native.Mathlib.Omega.{arith}
use mathlib.Core.Path.{◌∙◌}
use Rattle.report.specs.Text.{book_word, at_word, book_refused}
use Rattle.report.proofs.DecimalLaws.{decimal_length, byte_length}
use Rattle.report.proofs.LineLaws.{two_numbers_length}
use Rattle.report.proofs.PutLaws.{put_more, line_none, line_all}
use borrow.Author.Rules.{rules}
use Rattle.report.proofs.put_book_refused.Goals as goal

pub returns-then-out-lt64 : goal.returns-then-out-lt64
returns-then-out-lt64 c =
    let args = c.args in
    line_none args.out.now (book_refused args.number args.offset) c.if-out-lt64.true

pub put_two_numbers-requires : goal.put_two_numbers-requires
put_two_numbers-requires c =
    let tested = c in
    let args = c.args in
    let word = c.put_bytes-at in
    let first = byte_length args.number (search rules) in
    let second = decimal_length args.offset (search rules) in
    rw (c.from.ensures, two_numbers_length) (omega (arith, c.if-out-lt64.false, word.ensures.end, word.auto.out, first, second))

pub returns : goal.returns
unfolding book_refused book_word at_word
returns c =
    let tested = c in
    let word = c.put_bytes-at in
    let numbers = c.put_two_numbers in
    let all = put_more (omega arith) word.ensures (rw c.from.ensures at numbers.ensures) in
    line_all c.if-out-lt64.false (numbers.auto.out ∙ word.auto.out) all
