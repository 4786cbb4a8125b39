-- The set of the numbers below n of which a test holds, as bits: its members are those numbers and no others, and a set is empty exactly
-- where its number is 0. By induction on n, since each number is put in at its own turn.
use Prim.Native.Nat.{ℕ, zero, suc, ◌+◌, ◌-◌, ◌*◌, ◌%◌, ◌^◌, ◌<◌}
use native.Mathlib.Nat.{eq-or-lt_of_le, le_of_suc-le-suc, lt-suc_self, lt_of_lt_of_le}
use native.Mathlib.Omega.{arith}
use mathlib.Core.Path.{◌≡◌, refl, sym, ap, ap₂, ◌∙◌}
use mathlib.Core.Logic.{◌⊎◌, inl, inr, ⊎_elim}
use mathlib.Core.Bool.{Bool, true, false, cond, not, ◌&&◌, ◌||◌, or_comm}
use lib.Dec.{eqb, ltb}
use lib.Bits.{bit_or, or_lt, shifted_half, shifted_even}
use lib.Pow.{pow_mono, pow_pos}
use borrow.Author.Tests.{ltb-true, ltb-false, lt-ltb, le-ltb, eqb-true, eq-eqb, ne_eqb}
use Rattle.bits.specs.Bits.{bit, with_bit, with_bit_if, mask_below}
use Rattle.bits.specs.Bounded.{any_below, fold_below, count_below}
use Rattle.bits.proofs.Booleans.{
  and_left,
  and_right,
  and_both,
  or_cases,
  or_left,
  or_right,
  bool_ext,
  by_test,
  decide,
  false_elim,
  false_intro,
}
use Rattle.bits.proofs.Bounds.{any_some, some_any, fold_start, fold_step, count_ext}
use Rattle.bits.proofs.BitLaws.{bit_or_lem, bit_half, bit_low, bit_zero, bit_with, bits_ext, with_lt}

pub mask_start : (p : ℕ → Bool) → mask_below 0 p ≡ 0
unfolding mask_below
mask_start p = fold_start (with_bit_if p) 0

-- one turn of a loop that gathers the set
pub mask_step : (n : ℕ) (p : ℕ → Bool) {m m' : ℕ} → m ≡ mask_below n p → m' ≡ cond (p n) (with_bit m n) m → m' ≡ mask_below (n + 1) p
unfolding mask_below with_bit_if
mask_step n p before turn = fold_step n (with_bit_if p) 0 before turn

pub mask_lt : (n : ℕ) (p : ℕ → Bool) → mask_below n p < 2 ^ n
unfolding mask_below with_bit_if fold_below
mask_lt zero p = pow_pos 0
mask_lt (suc n) p = go (p n) (mask_lt n p)
  where
    go : (b : Bool) → mask_below n p < 2 ^ n → cond b (with_bit (mask_below n p) n) (mask_below n p) < 2 ^ suc n
    go true l = with_lt (suc n) (mask_below n p) n (lt_of_lt_of_le l (pow_mono (omega arith))) (lt-suc_self n)
    go false l = lt_of_lt_of_le l (pow_mono (omega arith))

-- a number is in the set exactly where it is below n and p holds of it
pub bit_mask : (n : ℕ) (p : ℕ → Bool) (k : ℕ) → bit (mask_below n p) k ≡ ltb k n && p k
unfolding mask_below with_bit_if fold_below
bit_mask zero p k = bit_zero k ∙ sym (ap (λ (b : Bool). b && p k) (le-ltb k 0 (omega arith)))
bit_mask (suc n) p k = go (p n) refl (bit_mask n p k)
  where
    rest : ℕ
    rest = mask_below n p

    below : ltb k n && p k ≡ true → ltb k (suc n) && p k ≡ true
    below e = and_both _ _ (lt-ltb k (suc n) (let l = ltb-true k n (and_left (ltb k n) _ e) in omega arith)) (and_right (ltb k n) _ e)

    cases : ltb k (suc n) && p k ≡ true → (k ≡ n) ⊎ (ltb k n && p k ≡ true)
    cases e =
        ⊎_elim (λ i. inl i) (λ l. inr (and_both _ _ (lt-ltb k n l) (and_right (ltb k (suc n)) _ e)))
        (eq-or-lt_of_le (le_of_suc-le-suc (ltb-true k (suc n) (and_left (ltb k (suc n)) _ e))))

    go : (b : Bool) → p n ≡ b → bit rest k ≡ ltb k n && p k → bit (cond b (with_bit rest n) rest) k ≡ ltb k (suc n) && p k
    go true h e =
        bit_with rest n k
        ∙ bool_ext (eqb k n || bit rest k) (ltb k (suc n) && p k)
        (λ x.
        ⊎_elim (λ i. let q = eqb-true k n i in rw q (and_both _ _ (lt-ltb n (suc n) (lt-suc_self n)) h)) (λ m. below (sym e ∙ m))
        (or_cases (eqb k n) _ x))
        (λ x. ⊎_elim (λ i. or_left _ _ (eq-eqb k n i)) (λ m. or_right (eqb k n) _ (e ∙ m)) (cases x))
    go false h e =
        e
        ∙ bool_ext (ltb k n && p k) (ltb k (suc n) && p k) below
        (λ x.
        ⊎_elim (λ i. absurd (false_elim (p n) h (ap p (sym i) ∙ and_right (ltb k (suc n)) _ x))) (λ m. m) (cases x))

-- below n, the set has the bits of the test
pub bit_mask_below : (n : ℕ) (p : ℕ → Bool) (k : ℕ) → k < n → bit (mask_below n p) k ≡ p k
bit_mask_below n p k l = bit_mask n p k ∙ ap (λ (b : Bool). b && p k) (lt-ltb k n l)

-- a number below 2 ^ n whose bits are those of the test is the set
-- the test for a number, which is taken modulo the width, in a set that was found
pub mask_test : (p : ℕ → Bool) (k : ℕ) {set : ℕ} {b : Bool} → k < 64 → set ≡ mask_below 64 p → b ≡ bit set (k % 64) → b ≡ p k
mask_test p k l found test = let own : k % 64 ≡ k = omega arith in test ∙ rw (own, found) (bit_mask_below 64 p k l)

pub mask_of_bits : (n m : ℕ) (p : ℕ → Bool) → m < 2 ^ n → ((k : ℕ) → k < n → bit m k ≡ p k) → m ≡ mask_below n p
mask_of_bits n m p l h = bits_ext n m (mask_below n p) l (mask_lt n p) (λ k i. h k i ∙ sym (bit_mask_below n p k i))

pub mask_ext : (n : ℕ) (p q : ℕ → Bool) → ((k : ℕ) → k < n → p k ≡ q k) → mask_below n p ≡ mask_below n q
mask_ext n p q h = mask_of_bits n (mask_below n p) q (mask_lt n p) (λ k l. bit_mask_below n p k l ∙ h k l)

-- a set below 2 ^ n is empty exactly where no number below n is in it
pub empty_none : (n m : ℕ) → m < 2 ^ n → eqb m 0 ≡ not (any_below n (bit m))
empty_none n m l =
    ⊎_elim
    (λ y.
    let (k, i, b) = any_some n (bit m) y in
    ne_eqb m 0 (λ z. false_elim (bit 0 k) (bit_zero k) (ap (λ (x : ℕ). bit x k) (sym z) ∙ b)) ∙ sym (ap not y))
    (λ f.
    let z : m ≡ 0 = bits_ext n m 0 l (pow_pos n) (λ k i. false_intro (bit m k) (λ b. false_elim (any_below n (bit m)) f (some_any n
    (bit m) k i b)) ∙ sym (bit_zero k)) in
    eq-eqb m 0 z ∙ sym (ap not f))
    (decide (any_below n (bit m)))

-- ---- sets changed

eqb_comm : (a b : ℕ) → eqb a b ≡ eqb b a
eqb_comm a b =
    bool_ext _ _ (λ e. eq-eqb b a (sym (eqb-true a b e))) (λ e. eq-eqb a b (sym (eqb-true b a e)))

-- k is added where the test holds
bit_if : (a : Bool) (n k j : ℕ) → bit (cond a (with_bit n k) n) j ≡ (a && eqb k j) || bit n j
bit_if true n k j = bit_with n k j ∙ ap (λ (t : Bool). t || bit n j) (eqb_comm j k)
bit_if false n k j = refl

pub mask_none : (n : ℕ) (p : ℕ → Bool) → ((k : ℕ) → k < n → p k ≡ false) → mask_below n p ≡ 0
mask_none n p h = sym (mask_of_bits n 0 p (pow_pos n) (λ k l. bit_zero k ∙ sym (h k l)))

-- ---- sets joined, and a member added

pub mask_or : (n : ℕ) (p q : ℕ → Bool) → bit_or (mask_below n p) (mask_below n q) ≡ mask_below n (λ k. q k || p k)
mask_or n p q =
    mask_of_bits n _ (λ k. q k || p k) (or_lt n _ _ (mask_lt n p) (mask_lt n q)) (λ k l.
    bit_or_lem (mask_below n p) (mask_below n q) k ∙ ap₂ ◌||◌ (bit_mask_below n p k l) (bit_mask_below n q k l) ∙ or_comm (p k) (q k))

pub mask_with : (n : ℕ) (p : ℕ → Bool) (k : ℕ) (a : Bool) → k < n
    → cond a (with_bit (mask_below n p) k) (mask_below n p) ≡ mask_below n (λ j. (a && eqb k j) || p j)
mask_with n p k a b =
    let below : cond a (with_bit (mask_below n p) k) (mask_below n p) < 2 ^ n =
    by_test (λ (m : ℕ). m < 2 ^ n) a _ _ (λ t. with_lt n (mask_below n p) k (mask_lt n p) b) (λ f. mask_lt n p) in
    mask_of_bits n _ (λ j. (a && eqb k j) || p j) below (λ j l.
    bit_if a (mask_below n p) k j ∙ ap (λ (t : Bool). (a && eqb k j) || t) (bit_mask_below n p j l))

-- ---- a set shifted up

shifted_bit_at : (n d j : ℕ) → bit (n * 2 ^ d) (d + j) ≡ bit n j
shifted_bit_at n zero j = ap₂ bit (omega arith) (omega arith)
shifted_bit_at n (suc d) j =
    let next : suc d + j ≡ suc (d + j) = omega arith in
    ap (bit (n * 2 ^ suc d)) next ∙ sym (bit_half (n * 2 ^ suc d) (d + j)) ∙ ap (λ (x : ℕ). bit x (d + j)) (shifted_half n d)
    ∙ shifted_bit_at n d j

shifted_bit_low : (n d j : ℕ) → j < d → bit (n * 2 ^ d) j ≡ false
shifted_bit_low n zero j l = absurd (omega arith)
shifted_bit_low n (suc d) zero l = bit_low (n * 2 ^ suc d) ∙ ap (λ (x : ℕ). eqb x 1) (shifted_even n d)
shifted_bit_low n (suc d) (suc j) l =
    sym (bit_half (n * 2 ^ suc d) j) ∙ ap (λ (x : ℕ). bit x j) (shifted_half n d) ∙ shifted_bit_low n d j (omega arith)

-- k is in the shifted set where k is some member, shifted
pub mask_shifted : (n d : ℕ) (p : ℕ → Bool) (k : ℕ)
    → bit (mask_below n p * 2 ^ d) k ≡ any_below n (λ j. p j && eqb (d + j) k)
mask_shifted n d p k = bool_ext _ _ there back
  where
    there : bit (mask_below n p * 2 ^ d) k ≡ true → any_below n (λ j. p j && eqb (d + j) k) ≡ true
    there b = ⊎_elim low high (decide (ltb k d))
      where
        low : ltb k d ≡ true → any_below n (λ j. p j && eqb (d + j) k) ≡ true
        low l = absurd (false_elim _ (shifted_bit_low (mask_below n p) d k (ltb-true k d l)) b)

        high : ltb k d ≡ false → any_below n (λ j. p j && eqb (d + j) k) ≡ true
        high l =
            let m = ltb-false k d l in
            let from : d + (k - d) ≡ k = omega arith in
            let in-mask : ltb (k - d) n && p (k - d) ≡ true =
            sym (bit_mask n p (k - d)) ∙ sym (shifted_bit_at (mask_below n p) d (k - d)) ∙ ap (bit (mask_below n p * 2 ^ d)) from ∙ b in
            some_any n (λ j. p j && eqb (d + j) k) (k - d) (ltb-true _ _ (and_left (ltb (k - d) n) _ in-mask))
            (and_both _ _ (and_right (ltb (k - d) n) _ in-mask) (eq-eqb _ _ from))

    back : any_below n (λ j. p j && eqb (d + j) k) ≡ true → bit (mask_below n p * 2 ^ d) k ≡ true
    back e =
        let (j, l, w) = any_some n (λ j. p j && eqb (d + j) k) e in
        ap (bit (mask_below n p * 2 ^ d)) (sym (eqb-true (d + j) k (and_right (p j) _ w)))
        ∙ shifted_bit_at (mask_below n p) d j ∙ bit_mask_below n p j l ∙ and_left (p j) _ w

-- ---- how many

-- a set has as many members as there are numbers of which its test holds
pub mask_count : (n : ℕ) (p : ℕ → Bool) → count_below n (bit (mask_below n p)) ≡ count_below n p
mask_count n p = count_ext n (bit (mask_below n p)) p (bit_mask_below n p)
