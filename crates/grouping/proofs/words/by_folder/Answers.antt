-- `by_folder` turns the words of the persons round.
use Rattle.grouping.proofs.FolderWords.{folder_words}
use Rattle.grouping.proofs.words.by_folder.Goals as goal

pub returns : goal.returns
returns c =
    folder_words _ c.fits-h _ c.person_words-rows.ensures c.turn.ensures
