-- `report::put_totals` puts the line of the totals into a buffer that has room for it: its first word, and then the numbers.
use native.Mathlib.Omega.{arith}
use mathlib.Core.Path.{◌∙◌}
use Rattle.report.specs.Text.{granted_word, refused_word, totals}
use Rattle.report.proofs.DecimalLaws.{decimal_length}
use Rattle.report.proofs.LineLaws.{two_numbers_length}
use Rattle.report.proofs.PutLaws.{put_more, line_none, line_all}
use borrow.Author.Rules.{rules}
use Rattle.report.proofs.put_totals.Goals as goal

pub returns-then-out-lt64 : goal.returns-then-out-lt64
returns-then-out-lt64 c =
    let args = c.args in
    line_none args.out.now (totals args.granted args.refused) c.if-out-lt64.true

pub put_two_numbers-requires : goal.put_two_numbers-requires
put_two_numbers-requires c =
    let tested = c in
    let args = c.args in
    let word = c.put_bytes-at in
    let first = decimal_length args.granted (search rules) in
    let second = decimal_length args.refused (search rules) in
    rw two_numbers_length (omega (arith, c.if-out-lt64.false, word.ensures.end, word.auto.out, first, second))

pub returns : goal.returns
unfolding totals granted_word refused_word
returns c =
    let tested = c in
    let word = c.put_bytes-at in
    let numbers = c.put_two_numbers in
    let all = put_more (omega arith) word.ensures numbers.ensures in
    line_all c.if-out-lt64.false (numbers.auto.out ∙ word.auto.out) all
