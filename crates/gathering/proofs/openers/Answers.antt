-- `openers` joins the words of the low half of the folders to empty sets, and then those of the high half.
use Rattle.grouping.proofs.FolderWords.{touched_in_lem}
use Rattle.gathering.proofs.UserLaws.{sets_are}
use Rattle.gathering.proofs.openers.Goals as goal

pub returns : goal.returns
returns c =
    sets_are
    (touched_in_lem _ _ _ _ c.touchers-low.ensures c.touchers-high.ensures
    c.add_words.ensures c.add_words-2.ensures)
