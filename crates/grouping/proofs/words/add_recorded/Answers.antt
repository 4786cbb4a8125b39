-- `add_recorded` joins the words of the low half of the folders, and then those of the high half.
use Rattle.grouping.proofs.FolderWords.{recorded_in_lem}
use Rattle.grouping.proofs.words.add_recorded.Goals as goal

pub returns : goal.returns
returns c =
    recorded_in_lem _ _ _ _ c.args.first _ c.by_folder-low.ensures
    c.by_folder-high.ensures
    c.add_words.ensures c.add_words-2.ensures
