-- The line is printed piece by piece: its first word, and the two numbers with what stands between them.
use Rattle.report.specs.Text.{granted_word, refused_word, totals}
use Rattle.report.proofs.LineLaws.{two_printed}
use borrow.Author.Rules.{rules}
use Rattle.report.proofs.shown.TotalsDisplay.fmt.Goals as goal

pub returns-clause-writes : goal.returns-clause-writes
unfolding totals granted_word refused_word
returns-clause-writes g c = λ plain ok.
    let line = c.args.self.now in
    let text = two_printed line.granted refused_word line.refused (search rules) (search rules) in
    rw (← text) (c.writeln.ensures.writes plain ok)
