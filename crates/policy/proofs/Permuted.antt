-- A reordering of a list has the same members and as many, and no repeats where the list has none. By induction over how the reordering
-- is made.
use Prim.Native.Nat.{ℕ, suc}
use native.Mathlib.Nat.{ℕ_set}
use mathlib.Core.Path.{◌≡◌, refl, sym, ap, ◌∙◌}
use mathlib.Core.Logic.{◌⊎◌, inl, inr, ⊎_elim, ∥∥₁_elim}
use mathlib.Core.HLevel.{⊥_prop}
use mathlib.Core.List.Memᴰ
use mathlib.Core.List.Permᴰ
use mathlib.Core.List.{
  List,
  [],
  ◌∷◌,
  Perm,
  Permᴰ,
  Memᴰ,
}
use lib.Dec.{eqb}
use lib.ListN.{length}
use borrow.Author.Tests.{eqb-true, eqb-false}
use Rattle.bits.proofs.Booleans.{decide}

pub permuted_in : {A : Type 0} {l m : List A} → Permᴰ l m → (x : A) → Memᴰ x m → Memᴰ x l
permuted_in Permᴰ.nil x h = h
permuted_in (Permᴰ.cons e d) x h =
    ⊎_elim (λ i. Memᴰ.head (i ∙ sym e)) (λ k. Memᴰ.tail (permuted_in d x k)) (Memᴰ.cases_cons h)
permuted_in (Permᴰ.swap e f) x h =
    ⊎_elim (λ i. Memᴰ.tail (Memᴰ.head (i ∙ sym f)))
    (λ k. ⊎_elim (λ i. Memᴰ.head (i ∙ sym e)) (λ j. Memᴰ.tail (Memᴰ.tail j)) (Memᴰ.cases_cons k))
    (Memᴰ.cases_cons h)
permuted_in (Permᴰ.trans d d') x h = permuted_in d x (permuted_in d' x h)

same_length : {A : Type 0} {l m : List A} → Permᴰ l m → length l ≡ length m
same_length Permᴰ.nil = refl
same_length (Permᴰ.cons e d) = ap suc (same_length d)
same_length (Permᴰ.swap e f) = refl
same_length (Permᴰ.trans d d') = same_length d ∙ same_length d'

pub permuted_length : {A : Type 0} (l m : List A) → Perm l m → length l ≡ length m
permuted_length l m p = ∥∥₁_elim p (ℕ_set (length l) (length m)) same_length

-- ---- numbers

stands : (l : List ℕ) (i : ℕ) → Memᴰ i l ⊎ (Memᴰ i l → ⊥)
stands [] i = inr (λ m. Memᴰ.not-nil m)
stands (x ∷ l) i =
    ⊎_elim (λ e. inl (Memᴰ.head (eqb-true i x e)))
    (λ f.
    ⊎_elim (λ m. inl (Memᴰ.tail m)) (λ none. inr (λ m. ⊎_elim (eqb-false i x f) none (Memᴰ.cases_cons m)))
    (stands l i)) (decide (eqb i x))

-- a number of the list stands in the reordering
pub permuted_stands : (l m : List ℕ) → Perm l m → (i : ℕ) → Memᴰ i l → Memᴰ i m
permuted_stands l m p i h =
    ⊎_elim (λ there. there) (λ none. absurd (∥∥₁_elim p ⊥_prop (λ d. none (permuted_in (Permᴰ.symm d) i h)))) (stands m i)

-- ---- no repeats

abbrev pub NoRepeats : {A : Type 0} → List A → Type 0
NoRepeats [] = Unit {0}
NoRepeats (x ∷ l) = (Memᴰ x l → ⊥) × NoRepeats l

pub permuted_no_repeats : {A : Type 0} {l m : List A} → Permᴰ l m → NoRepeats l → NoRepeats m
permuted_no_repeats Permᴰ.nil w = w
permuted_no_repeats (Permᴰ.cons e d) w =
    (λ h. w.0 (permuted_in d _ (Memᴰ.cast e h)), permuted_no_repeats d w.1)
permuted_no_repeats (Permᴰ.swap e f) w = (
  λ h.
      ⊎_elim (λ i. w.0 (Memᴰ.head (e ∙ sym i ∙ sym f))) (λ k. w.1.0 (Memᴰ.cast f k)) (Memᴰ.cases_cons h),
  (λ h. w.0 (Memᴰ.tail (Memᴰ.cast e h)), w.1.1),
)
permuted_no_repeats (Permᴰ.trans d d') w = permuted_no_repeats d' (permuted_no_repeats d w)
