-- `past::has_started_declared` answers whether a person started a declared one: where the word of the starts is zero, it has no member.
use Prim.Native.Nat.{ℕ}
use mathlib.Core.Path.{◌≡◌, sym, ap, ap₂, ◌∙◌}
use mathlib.Core.Bool.{false, not}
use lib.Bits.{bit_and, and_zero_l}
use lib.Dec.{eqb}
use Rattle.bits.specs.Bits.{mask_below}
use Rattle.bits.proofs.Masks.{mask_lt}
use Rattle.policy.specs.Tables.{person_declared}
use Rattle.recorded.proofs.Recorded.{starts_word}
use Rattle.past.proofs.has_started_declared.Goals as goal

pub returns-then-started-eq0 : goal.returns-then-started-eq0
returns-then-started-eq0 c =
    let start = c in
    let P = mask_below 64 (person_declared c.args.t.now) in
    let zero = sym c.word_at-started.ensures ∙ c.if-started-eq0.true in
    let none : not (eqb (bit_and 0 P) 0) ≡ false = ap (λ (n : ℕ). not (eqb n 0)) (and_zero_l P) in
    sym (ap (λ (n : ℕ). not (eqb (bit_and n P) 0)) zero ∙ none)
    ∙ starts_word c.args.h.now c.args.s P c.fits-h
    (mask_lt 64 (person_declared c.args.t.now))

pub returns : goal.returns
returns c =
    let start = c in
    let word = c.word_at-started in
    ap₂ (λ (n m : ℕ). not (eqb (bit_and n m) 0)) word.ensures c.persons.ensures
    ∙ starts_word c.args.h.now c.args.s _ c.fits-h
    (mask_lt 64 (person_declared c.args.t.now))
