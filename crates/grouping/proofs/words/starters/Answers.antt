-- `starters` has the persons whose word of starts has one of the set.
use Prim.Native.Nat.{◌+◌, ◌*◌}
use mathlib.Core.Path.{◌≡◌, ◌∙◌}
use mathlib.Core.Bool.{not}
use lib.Bits.{bit_and}
use lib.Dec.{eqb}
use Rattle.history.specs.Words.{word_at}
use Rattle.recorded.specs.Recorded.{started}
use Rattle.recorded.proofs.Recorded.{starts_word}
use borrow.Author.Rules.{rules}
use Rattle.grouping.proofs.words.starters.Goals as goal

pub returns : goal.returns
returns c =
    let args = c.args in
    c.set_by.ensures (started args.persons args.h.now) (λ s b l p.
    let test : b ≡ not (eqb (bit_and (word_at args.h.now (2048 + 8 * s)) args.persons) 0) = search rules in
    test ∙ starts_word args.h.now s args.persons c.fits-h (search rules))
