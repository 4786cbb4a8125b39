-- The lowest set bit of a number, and the number without it, at every width. Both are found digit by digit: a number that is odd has its
-- lowest set bit at 0, and any other has it one place above that of its half.
use Prim.Native.Nat.{ℕ, zero, suc, ◌+◌, ◌-◌, ◌*◌, ◌/◌, ◌%◌, ◌^◌, ◌≤◌, ◌<◌}
use native.Mathlib.Nat.{eq-or-lt_of_le, le_of_suc-le-suc, not-suc-le-zero, pow-suc}
use native.Mathlib.Omega.{arith}
use mathlib.Core.Path.{◌≡◌, refl, sym, ap, ap₂, ◌∙◌, fun_ext}
use mathlib.Core.Logic.{⊎_elim}
use mathlib.Core.Bool.{Bool, true, false, cond, not, ◌&&◌, and-false}
use lib.Arith.{lt-one}
use lib.Bits.{bit_and, and_step, and_self}
use lib.Count.{under, count_trailing_zeros}
use lib.Dec.{eqb, leb, eqb-zero-suc, eqb-suc-zero, eqb-suc-suc}
use lib.Pow.{pow_pos}
use borrow.Author.Tests.{leb-true, leb-false, eq-eqb, ne_eqb}
use Rattle.bits.specs.Bits.{bit, without_bit}
use Rattle.bits.specs.Bounded.{lowest_below}
use Rattle.bits.proofs.Booleans.{decide, false_elim}
use Rattle.bits.proofs.BitLaws.{digit, bit_half, bit_low, bit_zero, bit_high, bits_ext}

-- ---- the lowest number below n

-- p holds of no number below it
pub below_lowest : (n : ℕ) (p : ℕ → Bool) (k : ℕ) → k < lowest_below n p → p k ≡ false
unfolding lowest_below
below_lowest zero p k l = absurd (not-suc-le-zero l)
below_lowest (suc n) p k l = go (p 0) refl (below_lowest n (λ j. p (suc j))) k l
  where
    go : (b : Bool) → p 0 ≡ b → ((j : ℕ) → j < lowest_below n (λ i. p (suc i)) → p (suc j) ≡ false)
        → (j : ℕ) → j < cond b 0 (suc (lowest_below n (λ i. p (suc i)))) → p j ≡ false
    go true e rest j m = absurd (not-suc-le-zero m)
    go false e rest zero m = e
    go false e rest (suc j) m = rest j (le_of_suc-le-suc m)

-- where there is one, p holds of it
at_lowest : (n : ℕ) (p : ℕ → Bool) → lowest_below n p < n → p (lowest_below n p) ≡ true
unfolding lowest_below
at_lowest zero p l = absurd (not-suc-le-zero l)
at_lowest (suc n) p l = go (p 0) refl (at_lowest n (λ j. p (suc j))) l
  where
    go : (b : Bool) → p 0 ≡ b → (lowest_below n (λ i. p (suc i)) < n → p (suc (lowest_below n (λ i. p (suc i)))) ≡ true)
        → cond b 0 (suc (lowest_below n (λ i. p (suc i)))) < suc n → p (cond b 0 (suc (lowest_below n (λ i. p (suc i))))) ≡ true
    go true e rest m = e
    go false e rest m = rest (le_of_suc-le-suc m)

-- ---- the lowest set bit

-- a number that is not 0 has one, and it is set
pub lowest_lt : (w n : ℕ) → 0 < n → n < 2 ^ w → lowest_below w (bit n) < w
lowest_lt w n p l =
    ⊎_elim (λ t. absurd (none (leb-true w (lowest_below w (bit n)) t))) (λ f. leb-false w (lowest_below w (bit n)) f)
    (decide (leb w (lowest_below w (bit n))))
  where
    none : w ≤ lowest_below w (bit n) → ⊥
    none above =
        let z : n ≡ 0 = bits_ext w n 0 l (pow_pos w) (λ k b. below_lowest w (bit n) k (omega arith) ∙ sym (bit_zero k)) in
        omega arith

pub lowest_set : (w n : ℕ) → 0 < n → n < 2 ^ w → bit n (lowest_below w (bit n)) ≡ true
lowest_set w n p l = at_lowest w (bit n) (lowest_lt w n p l)

under_digit : (d t : ℕ) → d < 2 → under d t ≡ cond (eqb d 1) 0 (suc t)
under_digit d t h = ⊎_elim (λ e. rw e) (λ e. rw e) (digit d h)

-- `u64::trailing_zeros(n)`
pub trailing_lowest : (w n : ℕ) → count_trailing_zeros w n ≡ lowest_below w (bit n)
unfolding count_trailing_zeros lowest_below
trailing_lowest zero n = refl
trailing_lowest (suc w) n =
    under_digit (n % 2) (count_trailing_zeros w (n / 2)) (omega arith)
    ∙ ap₂ (λ (b : Bool) (k : ℕ). cond b 0 (suc k)) (sym (bit_low n))
    (trailing_lowest w (n / 2) ∙ ap (lowest_below w) (fun_ext (bit_half n)))

-- ---- a number without a bit

-- the power of a bit that is set is at most the number
pub set_le : (n k : ℕ) → bit n k ≡ true → 2 ^ k ≤ n
set_le n k e =
    ⊎_elim (λ t. leb-true (2 ^ k) n t) (λ f. absurd (false_elim (bit n k) (bit_high k n k (leb-false (2 ^ k) n f) (omega arith)) e))
    (decide (leb (2 ^ k) n))

-- a number without a bit that it has is less
pub without_lt : (n k : ℕ) → bit n k ≡ true → without_bit n k < n
unfolding without_bit
without_lt n k e = rw e (omega (arith, set_le n k e, pow_pos k))

without_low : (n : ℕ) → without_bit n 0 ≡ n / 2 * 2
unfolding without_bit
without_low n = rw bit_low (⊎_elim (λ e. rw e (omega arith)) (λ e. rw e (omega arith)) (digit (n % 2) (omega arith)))

without_half : (n k : ℕ) → without_bit n (suc k) ≡ without_bit (n / 2) k * 2 + n % 2
unfolding without_bit
without_half n k = rw (← bit_half n k) (go (bit (n / 2) k) refl)
  where
    go : (b : Bool) → bit (n / 2) k ≡ b → cond b (n - 2 ^ suc k) n ≡ cond b (n / 2 - 2 ^ k) (n / 2) * 2 + n % 2
    go true e = omega (arith, set_le (n / 2) k e, pow-suc 2 k)
    go false e = omega arith

-- after bit k is cleared, it is not set, and every other bit is as it was
pub bit_without : (n k j : ℕ) → bit (without_bit n k) j ≡ not (eqb j k) && bit n j
bit_without n zero zero =
    let even : n / 2 * 2 % 2 ≡ 0 = omega arith in
    bit_low (without_bit n 0) ∙ rw (without_low, even)
bit_without n zero (suc j) =
    let half : n / 2 * 2 / 2 ≡ n / 2 = omega arith in
    sym (bit_half (without_bit n 0) j) ∙ rw (without_low, half, eqb-suc-zero, bit_half)
bit_without n (suc k) zero =
    let lowest : (without_bit (n / 2) k * 2 + n % 2) % 2 ≡ n % 2 = omega arith in
    bit_low (without_bit n (suc k)) ∙ rw (without_half, lowest, eqb-zero-suc, bit_low)
bit_without n (suc k) (suc j) =
    let half : (without_bit (n / 2) k * 2 + n % 2) / 2 ≡ without_bit (n / 2) k = omega arith in
    sym (bit_half (without_bit n (suc k)) j) ∙ rw (without_half, half, bit_without (n / 2) k j, eqb-suc-suc, bit_half)

pub same_above : (n k j : ℕ) → k < j → bit (without_bit n k) j ≡ bit n j
same_above n k j l = bit_without n k j ∙ rw (ne_eqb j k (λ e. omega arith))

-- ---- a number without its lowest set bit

-- no bit up to the one that was cleared is set
pub none_to_lowest : (w n j : ℕ) → j ≤ lowest_below w (bit n) → bit (without_bit n (lowest_below w (bit n))) j ≡ false
none_to_lowest w n j l =
    bit_without n (lowest_below w (bit n)) j
    ∙ ⊎_elim (λ e. rw (eq-eqb j (lowest_below w (bit n)) e)) (λ m. rw (below_lowest w (bit n) j m, and-false)) (eq-or-lt_of_le l)

and_trailing : (w n : ℕ) → n < 2 ^ w → bit_and n (n - 1) ≡ without_bit n (count_trailing_zeros w n)
unfolding count_trailing_zeros
and_trailing zero n l = rw (lt-one l) (sym (without_low 0))
and_trailing (suc w) n l =
    let small : n / 2 < 2 ^ w = omega (arith, pow-suc 2 w) in
    ⊎_elim (even (and_trailing w (n / 2) small)) odd (digit (n % 2) (omega arith))
  where
    even : bit_and (n / 2) (n / 2 - 1) ≡ without_bit (n / 2) (count_trailing_zeros w (n / 2)) → n % 2 ≡ 0
        → bit_and n (n - 1) ≡ without_bit n (under (n % 2) (count_trailing_zeros w (n / 2)))
    even halves e =
        let half : (n - 1) / 2 ≡ n / 2 - 1 = omega arith in
        let step = rw half at (and_step n (n - 1)) in
        rw e (omega (arith, without_half n (count_trailing_zeros w (n / 2))))

    odd : n % 2 ≡ 1 → bit_and n (n - 1) ≡ without_bit n (under (n % 2) (count_trailing_zeros w (n / 2)))
    odd e =
        let half : (n - 1) / 2 ≡ n / 2 = omega arith in
        let step = rw half at (and_step n (n - 1)) in
        rw e (omega (arith, and_self (n / 2), without_low n))

-- `n & (n - 1)` at w bits
pub and_less_one : (w n : ℕ) → n < 2 ^ w → bit_and n (n - 1) ≡ without_bit n (lowest_below w (bit n))
and_less_one w n l = and_trailing w n l ∙ ap (without_bit n) (trailing_lowest w n)
