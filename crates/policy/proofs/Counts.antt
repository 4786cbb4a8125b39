-- What is counted below a bound is the length of a list without repeats that has exactly the numbers below the bound of which the test
-- holds: the list is made as the count is, one number after another. The zeros of a list, and the others, are counted by their places.
use Prim.Native.Nat.{ℕ, zero, suc, ◌+◌, ◌<◌}
use native.Mathlib.Nat.{not-suc-le-zero, lt-suc_self, lt_irrefl, eq-or-lt_of_le, le_of_suc-le-suc}
use native.Mathlib.Omega.{arith}
use mathlib.Core.Path.{◌≡◌, refl, sym, ap, ◌∙◌}
use mathlib.Core.Logic.{◌⊎◌, inl, inr, ⊎_elim}
use mathlib.Core.Bool.{Bool, true, false, cond, not}
use mathlib.Core.List.Memᴰ
use mathlib.Core.List.{
  List,
  [],
  ◌∷◌,
  Memᴰ,
}
use lib.Dec.{eqb}
use lib.ListN.{length, get_or}
use Rattle.bits.specs.Bounded.{count_below}
use Rattle.bits.proofs.Booleans.{false_elim}
use Rattle.bits.proofs.Bounds.{count_low}
use Rattle.policy.specs.Calls.{granted_in, refused_in}
use Rattle.policy.specs.Counting.{NoRepeats, NumberOf}

-- the numbers below n of which p holds
below : ℕ → (ℕ → Bool) → List ℕ
below zero p = []
below (suc n) p = cond (p n) (n ∷ below n p) (below n p)

module _ (p : ℕ → Bool) where
  below_member : (n k : ℕ) → Memᴰ k (below n p) → (k < n) × (p k ≡ true)
  unfolding below
  below_member zero k m = absurd (Memᴰ.not-nil m)
  below_member (suc n) k m = go (p n) refl (below_member n k) m
    where
      go : (b : Bool) → p n ≡ b → (Memᴰ k (below n p) → (k < n) × (p k ≡ true))
          → Memᴰ k (cond b (n ∷ below n p) (below n p)) → (k < suc n) × (p k ≡ true)
      go true e rest m =
          ⊎_elim (λ (q : k ≡ n). (rw q (lt-suc_self n), rw q e))
          (λ later. let (l, h) = rest later in (omega arith, h)) (Memᴰ.cases_cons m)
      go false e rest m = let (l, h) = rest m in (omega arith, h)

  member_below : (n k : ℕ) → k < n → p k ≡ true → Memᴰ k (below n p)
  unfolding below
  member_below zero k l h = absurd (not-suc-le-zero l)
  member_below (suc n) k l h = go (p n) refl (member_below n k) (eq-or-lt_of_le (le_of_suc-le-suc l))
    where
      go : (b : Bool) → p n ≡ b → (k < n → p k ≡ true → Memᴰ k (below n p)) → (k ≡ n) ⊎ (k < n)
          → Memᴰ k (cond b (n ∷ below n p) (below n p))
      go true e rest (inl q) = Memᴰ.head q
      go true e rest (inr i) = Memᴰ.tail (rest i h)
      go false e rest (inl q) = absurd (false_elim (p n) e (rw q at h))
      go false e rest (inr i) = rest i h

  below_repeats : (n : ℕ) → NoRepeats (below n p)
  unfolding below
  below_repeats zero = tt
  below_repeats (suc n) = go (p n) (below_repeats n)
    where
      go : (b : Bool) → NoRepeats (below n p) → NoRepeats (cond b (n ∷ below n p) (below n p))
      go true rest = (λ m. let (l, h) = below_member n n m in lt_irrefl n l, rest)
      go false rest = rest

  below_length : (n : ℕ) → count_below n p ≡ length (below n p)
  unfolding below count_below
  below_length zero = refl
  below_length (suc n) = go (p n) (below_length n)
    where
      go : (b : Bool) → count_below n p ≡ length (below n p)
          → cond b 1 0 + count_below n p ≡ length (cond b (n ∷ below n p) (below n p))
      go true e = rw e (omega arith)
      go false e = rw e (omega arith)

-- the count is the number of those of which P holds, where P is being below the bound and passing the test
pub count_number : (n : ℕ) (p : ℕ → Bool) (P : ℕ → Type 0)
    → ((k : ℕ) → (k < n) × (p k ≡ true) → P k) → ((k : ℕ) → P k → (k < n) × (p k ≡ true)) → NumberOf P (count_below n p)
count_number n p P f g = (
  below n p,
  below_repeats p n,
  λ k. (λ m. f k (below_member p n k m), λ h. let (l, e) = g k h in member_below p n k l e),
  below_length p n,
)

-- ---- the zeros of a list, and the others

pub granted_places : (numbers : List ℕ) → granted_in numbers ≡ count_below (length numbers) (λ k. eqb (get_or numbers k 0) 0)
unfolding granted_in count_below
granted_places [] = refl
granted_places (n ∷ numbers) =
    ap (λ (m : ℕ). cond (eqb n 0) 1 0 + m) (granted_places numbers)
    ∙ sym (count_low (length numbers) (λ k. eqb (get_or (n ∷ numbers) k 0) 0))

pub refused_places : (numbers : List ℕ) → refused_in numbers ≡ count_below (length numbers) (λ k. not (eqb (get_or numbers k 0) 0))
unfolding refused_in count_below
refused_places [] = refl
refused_places (n ∷ numbers) =
    ap (λ (m : ℕ). cond (eqb n 0) 0 1 + m) (refused_places numbers)
    ∙ ap (λ (m : ℕ). m + count_below (length numbers) (λ k. not (eqb (get_or numbers k 0) 0))) (other (eqb n 0))
    ∙ sym (count_low (length numbers) (λ k. not (eqb (get_or (n ∷ numbers) k 0) 0)))
  where
    other : (b : Bool) → ◌≡◌ {A = ℕ} (cond b 0 1) (cond (not b) 1 0)
    other true = refl
    other false = refl
