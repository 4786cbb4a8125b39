-- `touchers` joins to each word of accesses that of the steps.
use mathlib.Core.Path.{refl}
use Rattle.grouping.proofs.FillLaws.{filled}
use Rattle.grouping.proofs.FolderWords.{touched_word}
use borrow.Author.Rules.{rules}
use Rattle.grouping.proofs.words.touchers.Goals as goal

pub returns : goal.returns
returns c =
    filled _ _ 64
    (λ i y q l k. (
      search rules,
      touched_word _ c.fits-h c.args.first i c.requires.0 l c.access_words-rows.ensures (c.turn-accessed.ensures.each i l) refl
          (search rules),
    ))
    c.from_fn.ensures.items
