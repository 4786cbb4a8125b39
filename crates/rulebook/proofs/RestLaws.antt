-- The end record of a book that loads lies in the book: each record that passes is whole, so the next one starts within the bytes, or at
-- their end. The rest of the book starts after it.
use Prim.Native.Nat.{ℕ, zero, suc, ◌+◌, ◌-◌, ◌<◌, ◌≤◌}
use native.Mathlib.Nat.{le_of_eq}
use native.Mathlib.Omega.{arith}
use mathlib.Core.Bool.{Bool, true, false, cond}
use mathlib.Core.List.{List, [], ◌∷◌}
use mathlib.Core.Path.{◌≡◌, refl, sym, subst}
use lib.Dec.{eqb, leb}
use lib.ListN.{length, take, drop, length-drop}
use lib.Seq.{drop-length, take-nil, take_all}
use borrow.Author.Tests.{leb-true, eqb-true, eqb-false, eq-eqb, ne_eqb}
use Rattle.policy.specs.declared.Tables.{Tables}
use Rattle.policy.specs.declared.Loaded.{Loaded}
use Rattle.policy.specs.Checks.{Check, ◌else◌, ladder}
use Rattle.policy.specs.Tables.{empty_tables}
use Rattle.policy.specs.Rulebook.{body_length, record_of, record_checks, declare, end_checks, refused_book, ended, load_from, load_book}
use Rattle.policy.specs.Calls.{rest_of}

third_passes : (a b c : Bool) (others : List Check)
    → ladder ((a else 2) ∷ (b else 3) ∷ (c else 1) ∷ others) ≡ 0 → c ≡ true
unfolding ladder
third_passes true true true others e = refl
third_passes true true false others e = absurd (eqb-false 1 0 refl e)
third_passes true false c others e = absurd (eqb-false 3 0 refl e)
third_passes false b c others e = absurd (eqb-false 2 0 refl e)

passed_whole : (at : ℕ) (t : Tables) (kind : ℕ) (body : List ℕ)
    → ladder (record_checks at t kind body) ≡ 0 → body_length kind ≤ length body
unfolding record_checks
passed_whole at t kind body e = leb-true (body_length kind) (length body) (third_passes _ _ (leb (body_length kind) (length body)) _ e)

ended_at : (at : ℕ) (t : Tables) → (ended at t).offset ≡ at
unfolding ended refused_book
ended_at at t = by (eqb (ladder (end_checks t)) 0)
  where
    by : (b : Bool)
        → (cond b (record { number = 0; offset = at; tables = t }) (refused_book (ladder (end_checks t)) at)).offset ≡ at
    by true = refl
    by false = refl

-- a loaded book: the end record, a later one, or a refused one, which is none
loaded_below : (n : ℕ) (a b : Bool) (last next other : Loaded)
    → (a ≡ true → last.offset < n)
    → (a ≡ true → next.number ≡ 0 → next.offset < n)
    → (a ≡ false → other.number ≡ 0 → ⊥)
    → (cond a (cond b last next) other).number ≡ 0
    → (cond a (cond b last next) other).offset < n
loaded_below n true true last next other hl hn ho e = hl refl
loaded_below n true false last next other hl hn ho e = hn refl e
loaded_below n false b last next other hl hn ho e = absurd (ho refl e)

end_below : (n at : ℕ) (bytes : List ℕ) (t : Tables)
    → (load_from n at bytes t).number ≡ 0 → (load_from n at bytes t).offset < at + length bytes
unfolding load_from refused_book
end_below zero at bytes t e = absurd (eqb-false 1 0 refl e)
end_below (suc n) at [] t e = absurd (eqb-false 1 0 refl e)
end_below (suc n) at (kind ∷ body) t e =
    let number = ladder (record_checks at t kind body) in
    let b = body_length kind in
    loaded_below (at + length (kind ∷ body)) (eqb number 0) (eqb kind 0) (ended at t) _ _
    (λ z. omega (arith, ended_at at t))
    (λ z l.
    let later = end_below n (at + 1 + b) (drop b body) (declare t (record_of kind body)) l in
    omega (arith, passed_whole at t kind body (eqb-true _ _ z), length-drop b body))
    (λ z l. eqb-false number 0 z l)
    e

pub end_inside : (book : List ℕ) → (load_book book).number ≡ 0 → (load_book book).offset < length book
unfolding load_book
end_inside book e = omega (arith, end_below (length book) 0 book empty_tables e)

module _ (book : List ℕ) (l : Loaded) (q : l ≡ load_book book) where
  pub inside : l.number ≡ 0 → l.offset < length book
  inside = subst (λ (b : Loaded). b.number ≡ 0 → b.offset < length book) (sym q) (end_inside book)

  pub none_left : (l.number ≡ 0 → ⊥) → take (length book - length book) (drop (length book) book) ≡ rest_of book
  unfolding rest_of
  none_left z = rw (drop-length book, take-nil (length book - length book), ← q, ne_eqb _ _ z)

  pub rest_left : l.number ≡ 0 → take (length book - (l.offset + 1)) (drop (l.offset + 1) book) ≡ rest_of book
  unfolding rest_of
  rest_left z =
      rw (← q, eq-eqb _ _ z) (take_all _ (drop (l.offset + 1) book) (le_of_eq (length-drop (l.offset + 1) book)))
