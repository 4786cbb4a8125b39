-- The counts of a tally: each is the smaller of the largest and its sum with what is added, since it goes up by one and stays at the
-- largest; and the counts of a list together are a sum over its places, which is 1 where one place has 1 and the others 0.
use Prim.Native.Nat.{ℕ, zero, suc, ◌+◌, ◌*◌, ◌/◌, ◌%◌, ◌≤◌, ◌<◌, min}
use native.Mathlib.Nat.{not-suc-le-zero, le_of_suc-le-suc}
use native.Mathlib.Omega.{arith}
use mathlib.Core.Path.{◌≡◌, refl, ap, ap₂, ◌∙◌}
use mathlib.Core.Logic.{⊎_elim, ◌≢◌}
use mathlib.Core.Bool.{cond, ◌&&◌}
use mathlib.Core.List.{List, [], ◌∷◌}
use lib.Dec.{eqb}
use lib.ListN.{length, get_or}
use borrow.Author.Tests.{eqb-true, eqb-false, eq-eqb, ne_eqb}
use Rattle.bits.proofs.Booleans.{decide, and_left, and_right, and_both, false_intro}
use Rattle.policy.specs.Tallies.{largest_count, raised, raised_by, with_raised}
use Rattle.policy.specs.Tallying.{sum_of}

-- ---- one count

raised_once : (x : ℕ) → x ≤ largest_count → raised x ≡ min largest_count (x + 1)
unfolding raised
raised_once x l =
    ⊎_elim (λ e. let top = eqb-true x largest_count e in rw e (omega arith))
    (λ e. let other = eqb-false x largest_count e in rw e (omega arith)) (decide (eqb x largest_count))

pub raised_by_lem : (x m : ℕ) → x ≤ largest_count → raised_by x m ≡ min largest_count (x + m)
unfolding raised_by
raised_by_lem x zero l = omega arith
raised_by_lem x (suc m) l =
    let before = raised_by_lem x m l in
    let once = raised_once (raised_by x m) (omega arith) in
    omega arith

-- ---- each count of a list

pub raised_length : (of : ℕ → ℕ → ℕ) (k : ℕ) (xs : List ℕ) → length (with_raised of k xs) ≡ length xs
unfolding with_raised
raised_length of k [] = refl
raised_length of k (x ∷ xs) = ap suc (raised_length of (suc k) xs)

-- the count at place i of a list that begins at k, which is the place p of all
pub raised_at_lem : (of : ℕ → ℕ → ℕ) (xs : List ℕ) (k i p : ℕ) → i < length xs → p ≡ k + i
    → get_or (with_raised of k xs) i 0 ≡ raised_by (get_or xs i 0) (of (p / 32) (p % 32))
unfolding with_raised
raised_at_lem of [] k i p l e = absurd (not-suc-le-zero l)
raised_at_lem of (x ∷ xs) k zero p l e = let here : k ≡ p = omega arith in rw here
raised_at_lem of (x ∷ xs) k (suc i) p l e = raised_at_lem of xs (suc k) i p (le_of_suc-le-suc l) (omega arith)

-- ---- sums over places

-- f at k, and at the places after it, n in all
unfoldable pub sum_from : (ℕ → ℕ) → ℕ → ℕ → ℕ
sum_from f k zero = 0
sum_from f k (suc n) = f k + sum_from f (suc k) n

pub sum_list : (f : ℕ → ℕ) (k : ℕ) (xs : List ℕ) → ((i : ℕ) → i < length xs → get_or xs i 0 ≡ f (k + i)) → sum_of xs ≡ sum_from f k (length xs)
unfolding sum_of sum_from
sum_list f k [] h = refl
sum_list f k (x ∷ xs) h =
    ap₂ ◌+◌ (h 0 (omega arith) ∙ ap f (omega arith))
    (sum_list f (suc k) xs (λ i l. h (suc i) (omega arith) ∙ ap f (omega arith)))

pub sum_both : (f g : ℕ → ℕ) (k n : ℕ) → sum_from (λ j. f j + g j) k n ≡ sum_from f k n + sum_from g k n
unfolding sum_from
sum_both f g k zero = refl
sum_both f g k (suc n) = let rest = sum_both f g (suc k) n in omega arith

pub sum_none : (f : ℕ → ℕ) (k n : ℕ) → ((j : ℕ) → k ≤ j → f j ≡ 0) → sum_from f k n ≡ 0
unfolding sum_from
sum_none f k zero h = refl
sum_none f k (suc n) h =
    let here = h k (omega arith) in let rest = sum_none f (suc k) n (λ j l. h j (omega arith)) in omega arith

-- 1 at one place, and 0 at the others
sum_one : (f : ℕ → ℕ) (p k n : ℕ) → k ≤ p → p < k + n → f p ≡ 1 → ((j : ℕ) → j ≢ p → f j ≡ 0) → sum_from f k n ≡ 1
unfolding sum_from
sum_one f p k zero l h one others = let z : ⊥ = omega arith in absurd z
sum_one f p k (suc n) l h one others =
    ⊎_elim
    (λ e.
    let here : f k ≡ 1 = rw (eqb-true k p e) one in
    let rest = sum_none f (suc k) n (λ j m. others j (let same = eqb-true k p e in λ q. omega arith)) in
    omega arith)
    (λ e.
    let other = eqb-false k p e in
    let here = others k other in
    let rest = sum_one f p (suc k) n (omega arith) (omega arith) one others in
    omega arith)
    (decide (eqb k p))

-- ---- the place of a row and a number

-- of all places, one alone is that of a row and a number
pub one_place : (r n j : ℕ) → n < 32 → (eqb r (j / 32) && eqb n (j % 32) ≡ eqb j (32 * r + n))
one_place r n j l =
    ⊎_elim
    (λ e. let same = eqb-true j (32 * r + n) e in rw e (and_both _ _ (eq-eqb r (j / 32) (omega arith)) (eq-eqb n (j % 32) (omega arith))))
    (λ e.
    let other = eqb-false j (32 * r + n) e in
    rw e
    (false_intro _ (λ both.
    let row = eqb-true r (j / 32) (and_left _ _ both) in
    let number = eqb-true n (j % 32) (and_right (eqb r (j / 32)) _ both) in
    other (omega arith))))
    (decide (eqb j (32 * r + n)))

pub sum_place : (r n count : ℕ) → n < 32 → 32 * r + n < count
    → sum_from (λ j. cond (eqb r (j / 32) && eqb n (j % 32)) 1 0) 0 count ≡ 1
sum_place r n count l h =
    sum_one _ (32 * r + n) 0 count (omega arith) (omega arith) (rw (one_place r n (32 * r + n) l, eq-eqb (32 * r + n) _ refl))
    (λ j other. rw (one_place r n j l, ne_eqb j (32 * r + n) other))
