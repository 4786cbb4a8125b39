-- The line is one text.
use Rattle.report.specs.Text.{line_feed, too_long_words, too_long}
use Rattle.report.proofs.shown.TooLongDisplay.fmt.Goals as goal

pub returns-clause-writes : goal.returns-clause-writes
unfolding too_long too_long_words line_feed
returns-clause-writes g c = λ plain ok. c.writeln.ensures.writes plain ok
