-- `history::word_at` is the number of the eight bytes from the place on, the first lowest: the first chunk of what follows the place has
-- them in order.
use Rattle.history.proofs.WordLaws.{word_of_chunk}
use Rattle.history.proofs.word_at.Goals as goal

pub returns : goal.returns
returns c =
    let chunk = rw c.unwrap.ensures at c.first_chunk.ensures.cases in
    word_of_chunk c.args.h.now _ c.args.at c.requires chunk.same c.from_le_bytes.ensures
