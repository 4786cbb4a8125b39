-- What holds of an array, the blank one for instance, and is kept as one entry after another gets its value in another array, holds of the
-- other; and what holds of the empty set, and is kept as one member after another is put in, holds of the set. By induction on the entries
-- left and on the members put in.
use Prim.Native.Nat.{ℕ, zero, suc, ◌+◌, ◌^◌, ◌≤◌, ◌<◌}
use native.Mathlib.Omega.{arith}
use mathlib.Core.Path.{◌≡◌, refl, sym, ap, ◌∙◌}
use mathlib.Core.Bool.{true, false}
use mathlib.Core.List.{List, [], ◌∷◌, ◌++◌, append_assoc}
use lib.ListN.{length, get_or, set, replicate, length-append, length-replicate}
use lib.Seq.{set-append_seam, get_or-append_seam}
use borrow.Author.Tests.{le-ltb}
use Rattle.bits.specs.Bits.{bit, with_bit, with_bit_if, mask_below}
use Rattle.bits.specs.Bounded.{fold_below}
use Rattle.bits.proofs.Booleans.{by_test}
use Rattle.bits.proofs.Masks.{bit_mask, mask_of_bits}
use Rattle.policy.proofs.Sound.{blank_each}

-- ---- arrays

module _ {A : Type 0} (d : A) (P : List A → Type 0) (first l : List A)
    (step :
    (k : ℕ) (done : List A) → k < length l → length done ≡ length l → get_or done k d ≡ get_or first k d → P done
    → P (set done k (get_or l k d)))
  where
    -- the entries before the seam have their values, and those after it are still the first ones
    change_from : (front left before after : List A) → first ≡ front ++ left → l ≡ before ++ after → length front ≡ length before
        → length left ≡ length after → P (before ++ left) → P l
    change_from front [] before [] f e n m p = rw e p
    change_from front [] before (x ∷ after) f e n m p = absurd (omega arith)
    change_from front (y ∷ left) before [] f e n m p = absurd (omega arith)
    change_from front (y ∷ left) before (x ∷ after) f e n m p =
        let size : length l ≡ length before + suc (length after) = ap length e ∙ length-append before (x ∷ after) in
        let same : length (before ++ y ∷ left) ≡ length l = length-append before (y ∷ left) ∙ rw (m, size) in
        let at : get_or l (length before) d ≡ x = rw e (get_or-append_seam before x after d) in
        let was : get_or first (length before) d ≡ y = rw (f, ← n) (get_or-append_seam front y left d) in
        let new = step (length before) (before ++ y ∷ left) (omega arith) same (get_or-append_seam before y left d ∙ sym was) p in
        change_from (front ++ y ∷ []) left (before ++ x ∷ []) after
        (f ∙ sym (append_assoc front (y ∷ []) left)) (e ∙ sym (append_assoc before (x ∷ []) after))
        (rw (length-append front (y ∷ []), length-append before (x ∷ []), n)) (omega arith)
        (rw (append_assoc before (x ∷ []) left) (rw (at, set-append_seam before y left x) at new))

    pub change : length first ≡ length l → P first → P l
    change n p = change_from [] first [] l refl refl refl n p

module _ {A : Type 0} (d : A) (P : List A → Type 0) (l : List A)
    (step : (k : ℕ) (done : List A) → k < length l → length done ≡ length l → get_or done k d ≡ d → P done → P (set done k (get_or l k d)))
  where
    pub fill : (n : ℕ) → length l ≡ n → P (replicate n d) → P l
    fill n e p =
        change d P (replicate n d) l (λ k done m same was. step k done m same (was ∙ blank_each (λ x. x ≡ d) d n refl k))
        (length-replicate n d ∙ sym e) p

-- ---- sets

module _ (w x : ℕ) (P : ℕ → Type 0) (none : P 0) (step : (k y : ℕ) → k < w → bit x k ≡ true → bit y k ≡ false → P y → P (with_bit y k))
  where
    -- the members of x below k
    fill_below : (k : ℕ) → k ≤ w → P (mask_below k (bit x))
    unfolding mask_below with_bit_if fold_below
    fill_below zero l = none
    fill_below (suc k) l =
        let before = fill_below k (omega arith) in
        by_test P (bit x k) _ _
        (λ member. step k (mask_below k (bit x)) l member (bit_mask k (bit x) k ∙ rw (le-ltb k k (omega arith))) before) (λ other. before)

    pub fill_set : x < 2 ^ w → P x
    fill_set h = rw (mask_of_bits w x (bit x) h (λ k l. refl)) (fill_below w (omega arith))
