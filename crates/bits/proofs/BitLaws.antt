-- The bits of a number under "or", "and", halving and setting a bit, and that a number below 2 ^ w is fixed by its w lowest bits. The laws
-- hold at every width, by induction on the width: a number is its half twice, and its lowest bit. The code's shifts and masks cite them.
use Prim.Native.Nat.{ℕ, zero, suc, ◌+◌, ◌-◌, ◌*◌, ◌/◌, ◌%◌, ◌^◌, ◌≤◌, ◌<◌, min, max}
use native.Mathlib.Nat.{
  pow-suc,
  div-one,
  one-mul,
  zero-mul,
  mul-suc,
  mul_comm,
  mul_assoc,
  mul-le-mul_left,
  lt_of_le_of_lt,
  mod-lt,
  mod-eq_of_lt,
}
use native.Mathlib.Numerals.{one-add}
use native.Mathlib.Omega.{arith}
use mathlib.Core.Path.{◌≡◌, refl, sym, ap, ap₂, ◌∙◌}
use mathlib.Core.Logic.{◌⊎◌, inl, inr, ⊎_elim}
use mathlib.Core.Bool
use mathlib.Core.Bool.{Bool, true, false, cond, ◌&&◌, ◌||◌, false≢true}
use lib.Arith.{lt-one}
use lib.Bits.{bit_and, bit_or, and_step, or_step, and_shr, or_shr, and_le_l, and_mask, or_lt, or_shifted_r, or_zero_r}
use lib.Count.{ones, ones_step}
use lib.Dec.{eqb, leb, ltb, leb-suc-suc, eqb-zero-suc, eqb-suc-zero, eqb-suc-suc, lit<}
use lib.Pow.{pow-lt, pow_pos, pow-add, shr-shr, shl_exact}
use borrow.Author.Tests.{leb-true, leb-false, lt-ltb, le-ltb}
use Rattle.bits.specs.Bits.{bit, with_bit}
use Rattle.bits.specs.Bounded.{count_below}
use Rattle.bits.proofs.Booleans.{and_implied, decide, false_elim}
use Rattle.bits.proofs.Bounds.{count_ext, count_low}

-- ---- one digit, 0 or 1

low_or : (a b : ℕ) → bit_or a b % 2 ≡ max (a % 2) (b % 2)
low_or a b = omega (arith, or_step a b)

low_and : (a b : ℕ) → bit_and a b % 2 ≡ min (a % 2) (b % 2)
low_and a b = omega (arith, and_step a b)

pub digit : (p : ℕ) → p < 2 → (p ≡ 0) ⊎ (p ≡ 1)
digit zero h = inl refl
digit (suc zero) h = inr refl
digit (suc (suc p)) h = absurd (omega arith)

-- a law of two digits holds if it holds of 0 and 1
two_digits : (P : ℕ → ℕ → Type 0) → P 0 0 → P 0 1 → P 1 0 → P 1 1 → (p q : ℕ) → p < 2 → q < 2 → P p q
two_digits P a b c d p q hp hq =
    ⊎_elim (λ e. rw e (⊎_elim (λ f. rw f a) (λ f. rw f b) (digit q hq)))
    (λ e. rw e (⊎_elim (λ f. rw f c) (λ f. rw f d) (digit q hq))) (digit p hp)

max_digit : (p q : ℕ) → p < 2 → q < 2 → eqb (max p q) 1 ≡ (eqb p 1 || eqb q 1)
max_digit = two_digits (λ p q. eqb (max p q) 1 ≡ (eqb p 1 || eqb q 1)) refl refl refl refl

min_digit : (p q : ℕ) → p < 2 → q < 2 → eqb (min p q) 1 ≡ (eqb p 1 && eqb q 1)
min_digit = two_digits (λ p q. eqb (min p q) 1 ≡ (eqb p 1 && eqb q 1)) refl refl refl refl

same_digit : (p q : ℕ) → p < 2 → q < 2 → eqb p 1 ≡ eqb q 1 → p ≡ q
same_digit =
    two_digits (λ p q. eqb p 1 ≡ eqb q 1 → p ≡ q) (λ e. refl) (λ e. absurd (false≢true e)) (λ e. absurd (false≢true (sym e)))
    (λ e. refl)

digit_count : (p : ℕ) → p < 2 → p ≡ cond (eqb p 1) 1 0
digit_count p h = ⊎_elim (λ e. rw e) (λ e. rw e) (digit p h)

-- ---- bit by bit

pub bit_or_lem : (a b k : ℕ) → bit (bit_or a b) k ≡ (bit a k || bit b k)
unfolding bit
bit_or_lem a b k =
    ap (λ (x : ℕ). eqb (x % 2) 1) (or_shr a b k) ∙ ap (λ (x : ℕ). eqb x 1) (low_or (a / 2 ^ k) (b / 2 ^ k))
    ∙ max_digit (a / 2 ^ k % 2) (b / 2 ^ k % 2) (omega arith) (omega arith)

pub bit_and_lem : (a b k : ℕ) → bit (bit_and a b) k ≡ (bit a k && bit b k)
unfolding bit
bit_and_lem a b k =
    ap (λ (x : ℕ). eqb (x % 2) 1) (and_shr a b k) ∙ ap (λ (x : ℕ). eqb x 1) (low_and (a / 2 ^ k) (b / 2 ^ k))
    ∙ min_digit (a / 2 ^ k % 2) (b / 2 ^ k % 2) (omega arith) (omega arith)

-- the bits of n / 2 are those of n from the second on
pub bit_half : (n k : ℕ) → bit (n / 2) k ≡ bit n (suc k)
unfolding bit
bit_half n k = ap (λ (x : ℕ). eqb (x % 2) 1) (shr-shr n 1 k ∙ ap (λ (j : ℕ). n / 2 ^ j) (one-add k))

pub bit_low : (n : ℕ) → bit n zero ≡ eqb (n % 2) 1
unfolding bit
bit_low n = ap (λ (x : ℕ). eqb (x % 2) 1) (div-one n)

pub bit_zero : (k : ℕ) → bit 0 k ≡ false
bit_zero zero = bit_low 0
bit_zero (suc k) = sym (bit_half 0 k) ∙ bit_zero k

-- 2 ^ k has the bit k alone
pub bit_pow : (k j : ℕ) → bit (2 ^ k) j ≡ eqb j k
bit_pow zero zero = bit_low 1
bit_pow zero (suc j) = sym (bit_half 1 j) ∙ bit_zero j ∙ sym (eqb-suc-zero j)
bit_pow (suc k) zero =
    let even : 2 ^ suc k % 2 ≡ 0 = omega (arith, pow-suc 2 k) in
    bit_low (2 ^ suc k) ∙ ap (λ (x : ℕ). eqb x 1) even ∙ sym (eqb-zero-suc k)
bit_pow (suc k) (suc j) =
    let half : 2 ^ suc k / 2 ≡ 2 ^ k = omega (arith, pow-suc 2 k) in
    sym (bit_half (2 ^ suc k) j) ∙ ap (λ (x : ℕ). bit x j) half ∙ bit_pow k j ∙ sym (eqb-suc-suc j k)

-- after bit k is set, bit k is, and every other bit is as it was
pub bit_with : (n k j : ℕ) → bit (with_bit n k) j ≡ (eqb j k || bit n j)
unfolding with_bit
bit_with n k j =
    bit_or_lem n (2 ^ k) j ∙ ap (λ (t : Bool). bit n j || t) (bit_pow k j) ∙ Bool.or_comm (bit n j) (eqb j k)

-- ---- numbers below 2 ^ w

-- numbers with the same bits are equal
pub bits_ext : (w a b : ℕ) → a < 2 ^ w → b < 2 ^ w → ((k : ℕ) → k < w → bit a k ≡ bit b k) → a ≡ b
bits_ext zero a b ha hb e = omega arith
bits_ext (suc w) a b ha hb e =
    let halves : a / 2 ≡ b / 2 =
    bits_ext w (a / 2) (b / 2) (omega (arith, pow-suc 2 w)) (omega (arith, pow-suc 2 w))
    (λ k l. bit_half a k ∙ e (suc k) (omega arith) ∙ sym (bit_half b k)) in
    let lowest : a % 2 ≡ b % 2 =
    same_digit (a % 2) (b % 2) (omega arith) (omega arith) (sym (bit_low a) ∙ e 0 (omega arith) ∙ bit_low b) in
    omega arith

-- no bit from w on is set
pub bit_high : (w n k : ℕ) → n < 2 ^ w → w ≤ k → bit n k ≡ false
bit_high zero n k h l = ap (λ (x : ℕ). bit x k) (omega arith) ∙ bit_zero k
bit_high (suc w) n zero h l = absurd (omega arith)
bit_high (suc w) n (suc k) h l =
    sym (bit_half n k) ∙ bit_high w (n / 2) k (omega (arith, pow-suc 2 w)) (omega arith)

-- a bit that is set stands below w
pub bit_below : (w n q : ℕ) → n < 2 ^ w → bit n q ≡ true → q < w
bit_below w n q h e =
    ⊎_elim (λ t. absurd (false_elim (bit n q) (bit_high w n q h (leb-true w q t)) e)) (λ f. leb-false w q f)
    (decide (leb w q))

pub with_lt : (w n k : ℕ) → n < 2 ^ w → k < w → with_bit n k < 2 ^ w
unfolding with_bit
with_lt w n k h l = or_lt w n (2 ^ k) h (pow-lt l)

-- the set bits of n are counted at any width that holds n
pub ones_count : (w n : ℕ) → n < 2 ^ w → ones n ≡ count_below w (bit n)
unfolding count_below ones
ones_count zero n h = ap ones (lt-one h)
ones_count (suc w) n h =
    let lowest : n % 2 ≡ cond (bit n 0) 1 0 =
    digit_count (n % 2) (omega arith) ∙ ap (λ (t : Bool). cond t 1 0) (sym (bit_low n)) in
    let others : ones (n / 2) ≡ count_below w (λ k. bit n (suc k)) =
    ones_count w (n / 2) (omega (arith, pow-suc 2 w)) ∙ count_ext w (bit (n / 2)) (λ k. bit n (suc k)) (λ k l. bit_half n k) in
    ones_step n ∙ ap₂ (λ (p q : ℕ). p + q) lowest others ∙ sym (count_low w (bit n))

-- ---- subsets: a is one of b where `a & b == a`

pub subset_bit : (a b k : ℕ) → bit_and a b ≡ a → bit a k ≡ true → bit b k ≡ true
subset_bit a b k s h =
    let e : bit a k ≡ (bit a k && bit b k) = ap (λ (x : ℕ). bit x k) (sym s) ∙ bit_and_lem a b k in
    ap (λ (t : Bool). t && bit b k) (sym h) ∙ sym e ∙ h

pub bit_subset : (w a b : ℕ) → a < 2 ^ w → ((k : ℕ) → k < w → bit a k ≡ true → bit b k ≡ true) → bit_and a b ≡ a
bit_subset w a b ha h =
    bits_ext w (bit_and a b) a (lt_of_le_of_lt (and_le_l a b) ha) ha
    (λ k l. bit_and_lem a b k ∙ and_implied (bit a k) (bit b k) (h k l))

-- some width holds n
lt_pow : (n : ℕ) → n < 2 ^ n
lt_pow zero = lit< tt
lt_pow (suc n) = let h = lt_pow n in omega (arith, pow-suc 2 n)

pub and_assoc : (a b c : ℕ) → bit_and (bit_and a b) c ≡ bit_and a (bit_and b c)
and_assoc a b c =
    let left : bit_and (bit_and a b) c < 2 ^ a =
    lt_of_le_of_lt (and_le_l (bit_and a b) c) (lt_of_le_of_lt (and_le_l a b) (lt_pow a)) in
    bits_ext a (bit_and (bit_and a b) c) (bit_and a (bit_and b c)) left (lt_of_le_of_lt (and_le_l a (bit_and b c)) (lt_pow a))
    (λ k l. simp bit_and_lem (Bool.and_assoc (bit a k) (bit b k) (bit c k)))

-- ---- the code's shifts and masks, at a width of 2 ^ v bits: the mask 2 ^ v - 1 takes the number of a bit modulo the width

-- `(n >> (k & mask)) & 1 == 1`
pub masked_bit : (v n k : ℕ) → eqb (bit_and (n / 2 ^ bit_and k (2 ^ v - 1)) 1) 1 ≡ bit n (k % 2 ^ v)
unfolding bit
masked_bit v n k = rw (and_mask k v) (ap (λ (x : ℕ). eqb x 1) (and_mask (n / 2 ^ (k % 2 ^ v)) 1))

-- `1 << (k & mask)`
pub masked_pow : (v k : ℕ) → (1 * 2 ^ bit_and k (2 ^ v - 1)) % 2 ^ 2 ^ v ≡ 2 ^ (k % 2 ^ v)
masked_pow v k =
    rw (and_mask k v)
    (shl_exact 1 (k % 2 ^ v) (2 ^ v) (lit< tt) (let l = mod-lt k (pow_pos v) in omega arith) ∙ one-mul (2 ^ (k % 2 ^ v)))

-- `n | (1 << (k & mask))`
pub with_masked_bit : (v n k : ℕ) → bit_or n ((1 * 2 ^ bit_and k (2 ^ v - 1)) % 2 ^ 2 ^ v) ≡ with_bit n (k % 2 ^ v)
unfolding with_bit
with_masked_bit v n k =
    ap (bit_or n) (masked_pow v k)

-- `n | (x << (k & mask))`, where x is 1 for a test that holds, and 0 otherwise
pub with_masked_bit_if : (v n k x : ℕ) (add : Bool) → x ≡ cond add 1 0
    → bit_or n ((x * 2 ^ bit_and k (2 ^ v - 1)) % 2 ^ 2 ^ v) ≡ cond add (with_bit n (k % 2 ^ v)) n
with_masked_bit_if v n k x true e = rw e (with_masked_bit v n k)
with_masked_bit_if v n k x false e =
    let none : x * 2 ^ bit_and k (2 ^ v - 1) ≡ 0 = rw e (zero-mul (2 ^ bit_and k (2 ^ v - 1))) in
    rw none (ap (bit_or n) (mod-eq_of_lt (pow_pos (2 ^ v))) ∙ or_zero_r n)

-- ---- a number above w bits of another

-- `a | (b << w)` at u bits, where b has v: the two have no bit in common
pub or_above : (w v u a b : ℕ) → a < 2 ^ w → b < 2 ^ v → v + w ≤ u → bit_or a ((b * 2 ^ w) % 2 ^ u) ≡ a + 2 ^ w * b
or_above w v u a b low high fits =
    ap (bit_or a) (shl_exact v w u high fits) ∙ or_shifted_r b w a low ∙ omega (arith, mul_comm b (2 ^ w))

pub above_lt : (w v a b : ℕ) → a < 2 ^ w → b < 2 ^ v → a + 2 ^ w * b < 2 ^ (w + v)
above_lt w v a b low high = omega (arith, mul-le-mul_left (2 ^ w) high, mul-suc (2 ^ w) b, pow-add 2 w v)

pub bit_above : (w a b k : ℕ) → a < 2 ^ w → bit (a + 2 ^ w * b) k ≡ cond (ltb k w) (bit a k) (bit b (k - w))
bit_above zero a b k l =
    let e : a + 2 ^ 0 * b ≡ b = omega arith in
    let f : k - 0 ≡ k = omega arith in
    rw (e, le-ltb k 0 (omega arith), f)
bit_above (suc w) a b zero l =
    let x : 2 ^ suc w * b ≡ 2 * (2 ^ w * b) = ap (λ (n : ℕ). n * b) (pow-suc 2 w ∙ mul_comm (2 ^ w) 2) ∙ mul_assoc 2 (2 ^ w) b in
    let e : (a + 2 ^ suc w * b) % 2 ≡ a % 2 = omega arith in
    bit_low (a + 2 ^ suc w * b) ∙ ap (λ (n : ℕ). eqb n 1) e ∙ sym (bit_low a)
    ∙ sym (ap (λ (c : Bool). cond c (bit a 0) (bit b (0 - suc w))) (lt-ltb 0 (suc w) (omega arith)))
bit_above (suc w) a b (suc k) l =
    let x : 2 ^ suc w * b ≡ 2 * (2 ^ w * b) = ap (λ (n : ℕ). n * b) (pow-suc 2 w ∙ mul_comm (2 ^ w) 2) ∙ mul_assoc 2 (2 ^ w) b in
    let half : (a + 2 ^ suc w * b) / 2 ≡ a / 2 + 2 ^ w * b = omega arith in
    let small : a / 2 < 2 ^ w = let p = pow-suc 2 w in omega arith in
    let less : ltb k w ≡ ltb (suc k) (suc w) = sym (leb-suc-suc (suc k) w) in
    let rest : k - w ≡ suc k - suc w = omega arith in
    sym (bit_half (a + 2 ^ suc w * b) k)
    ∙ ap (λ (n : ℕ). bit n k) half
    ∙ bit_above w (a / 2) b k small
    ∙ ap₂ (λ (c : Bool) (n : ℕ). cond c (bit (a / 2) k) (bit b n)) less rest
    ∙ ap (λ (c : Bool). cond (ltb (suc k) (suc w)) c (bit b (suc k - suc w))) (bit_half a k)
