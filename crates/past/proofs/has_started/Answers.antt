-- `past::has_started` answers whether a person started one of a set: the word of the starts has a member of the set.
use Prim.Native.Nat.{ℕ}
use mathlib.Core.Path.{ap, ◌∙◌}
use mathlib.Core.Bool.{not}
use mathlib.Core.Path.{◌∙◌, ap}
use lib.Bits.{bit_and}
use lib.Dec.{eqb}
use Rattle.recorded.proofs.Recorded.{starts_word}
use borrow.Author.Rules.{rules}
use Rattle.past.proofs.has_started.Goals as goal

pub returns : goal.returns
returns c =
    let args = c.args in
    ap (λ (n : ℕ). not (eqb (bit_and n args.persons) 0)) c.word_at.ensures
    ∙ starts_word args.h.now args.s args.persons c.fits-h (search rules)
