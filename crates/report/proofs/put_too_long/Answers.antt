-- `report::put_too_long` puts one text into a buffer that has room for it.
use Rattle.report.specs.Text.{line_feed, too_long_words, too_long}
use Rattle.report.proofs.PutLaws.{line_none, line_all}
use Rattle.report.proofs.put_too_long.Goals as goal

pub returns-then-out-lt64 : goal.returns-then-out-lt64
returns-then-out-lt64 c = line_none c.args.out.now too_long c.if-out-lt64.true

pub returns : goal.returns
unfolding too_long too_long_words line_feed
returns c =
    let put = c.put_bytes in
    line_all c.if-out-lt64.false put.auto.out put.ensures
