-- The steps that a person applied to a folder, one after another: the bit of a step, shifted up to the step's number, is put in beside
-- those of the steps below it. All are shifted up by the number of the person's bit in its byte, where a byte's bit stands after all
-- others are masked away.
use Prim.Native.Nat.{ℕ, suc, ◌+◌, ◌-◌, ◌*◌, ◌/◌, ◌%◌, ◌^◌, ◌<◌}
use native.Mathlib.Nat.{mul_assoc, mul_comm, pow-suc, add-zero, zero-mul, one-mul, mod-eq_of_lt, lt_of_lt_of_le}
use native.Mathlib.Numerals.{one-add}
use native.Mathlib.Omega.{arith}
use mathlib.Core.Path.{◌≡◌, refl, sym, ap, ap₂, ◌∙◌}
use mathlib.Core.Logic.{⊎_elim}
use mathlib.Core.Bool.{Bool, true, false, cond}
use mathlib.Core.List.{List}
use lib.Bits.{bit_and, bit_or, or_zero_l, or_zero_r, or_block, and_mask, and_high}
use lib.Dec.{eqb}
use lib.ListN.{get_or}
use lib.Pow.{pow_pos, pow_mono, shl_lt, shl-shr}
use borrow.Author.Tests.{eqb-true, eqb-false}
use Rattle.bits.specs.Bits.{bit, with_bit, mask_below}
use Rattle.bits.proofs.Booleans.{decide}
use Rattle.bits.proofs.Masks.{mask_start, mask_step, mask_lt}
use Rattle.policy.specs.History.{bit_at}
use Rattle.policy.specs.Request.{index}
use Rattle.recorded.specs.Recorded.{step_at}

-- ---- numbers

-- a bit as a number
abbrev digit_of : Bool → ℕ
digit_of b = cond b 1 0

digit_small : (b : Bool) → digit_of b < 2
digit_small true = omega arith
digit_small false = omega arith

digit : (n k : ℕ) → n / 2 ^ k % 2 ≡ digit_of (bit n k)
unfolding bit
digit n k =
    ⊎_elim
    (λ y. let one = eqb-true (n / 2 ^ k % 2) 1 y in rw y one)
    (λ f. let zero : n / 2 ^ k % 2 ≡ 0 = let none = eqb-false (n / 2 ^ k % 2) 1 f in omega arith in rw f zero)
    (decide (eqb (n / 2 ^ k % 2) 1))

-- bit k alone
masked : (n k : ℕ) → bit_and n (with_bit 0 k) ≡ digit_of (bit n k) * 2 ^ k
unfolding with_bit
masked n k =
    let next : 2 ^ (1 + k) ≡ 2 ^ suc k = ap (λ (j : ℕ). 2 ^ j) (one-add k) in
    let power : 2 ^ k ≡ 2 ^ (1 + k) - 2 ^ k = omega (arith, pow-suc 2 k) in
    ap (bit_and n) (or_zero_l (2 ^ k) ∙ power) ∙ and_high n 1 k ∙ ap (λ (d : ℕ). d * 2 ^ k) (digit n k)

-- two numbers that are shifted up alike
or_alike : (a b k : ℕ) → bit_or (a * 2 ^ k) (b * 2 ^ k) ≡ bit_or a b * 2 ^ k
or_alike a b k =
    ap₂ bit_or (sym (add-zero (a * 2 ^ k))) (sym (add-zero (b * 2 ^ k)))
    ∙ or_block k a b 0 0 (pow_pos k) (pow_pos k) ∙ ap (λ (n : ℕ). bit_or a b * 2 ^ k + n) (or_zero_l 0) ∙ add-zero _

-- a bit put in at p, if it is one
put_in : (b : Bool) (n p : ℕ) → bit_or n (digit_of b * 2 ^ p) ≡ cond b (with_bit n p) n
unfolding with_bit
put_in true n p = ap (bit_or n) (one-mul (2 ^ p))
put_in false n p = ap (bit_or n) (zero-mul (2 ^ p)) ∙ or_zero_r n

-- a bit of a byte, shifted up to the number of its step, has no more than 32 bits
shifted_small : (b : Bool) (k p : ℕ) → k < 8 → p < 16 → digit_of b * 2 ^ k * 2 ^ p < 4294967296
shifted_small b k p l m =
    lt_of_lt_of_le (shl_lt (1 + k) p (shl_lt 1 k (digit_small b))) (pow_mono {j = 32} (omega arith))

-- the bit of a step stands in the byte that is read
step_bit : (h : List ℕ) (s o p : ℕ) → bit (get_or h (2560 + 128 * o + s / 8 + 8 * p) 0) (s % 8) ≡ step_at h s o p
unfolding step_at bit_at index
step_bit h s o p =
    let byte : (20480 + 64 * (16 * o + p) + s) / 8 ≡ 2560 + 128 * o + s / 8 + 8 * p = omega arith in
    let place : (20480 + 64 * (16 * o + p) + s) % 8 ≡ s % 8 = omega arith in
    rw (byte, place)

-- ---- one step after another

module _ (h : List ℕ) (s o : ℕ) where
  -- the steps below p, shifted up
  unfoldable pub steps_below : ℕ → ℕ
  steps_below p = mask_below p (step_at h s o) * 2 ^ (s % 8)

  pub no_steps : 0 ≡ steps_below 0
  unfolding steps_below
  no_steps = sym (ap (λ (n : ℕ). n * 2 ^ (s % 8)) (mask_start (step_at h s o)) ∙ zero-mul _)

  -- one step more
  pub steps_step : (p : ℕ) {steps byte one : ℕ} → p < 16 → steps ≡ steps_below p
      → byte ≡ get_or h (2560 + 128 * o + s / 8 + 8 * p) 0 → one ≡ with_bit 0 (s % 8)
      → bit_or steps (bit_and byte one * 2 ^ p % 4294967296) ≡ steps_below (p + 1)
  unfolding steps_below
  steps_step p {steps} {byte} {one} l before found alone =
      let set = mask_below p (step_at h s o) in
      let k = s % 8 in
      let d = step_at h s o p in
      let same : bit byte k ≡ d = ap (λ (b : ℕ). bit b k) found ∙ step_bit h s o p in
      let added : bit_and byte one ≡ digit_of d * 2 ^ k =
      ap (bit_and byte) alone ∙ masked byte k ∙ ap (λ (b : Bool). digit_of b * 2 ^ k) same in
      let turned : digit_of d * 2 ^ k * 2 ^ p ≡ digit_of d * 2 ^ p * 2 ^ k =
      mul_assoc (digit_of d) (2 ^ k) (2 ^ p) ∙ ap (λ (n : ℕ). digit_of d * n) (mul_comm (2 ^ k) (2 ^ p))
      ∙ sym (mul_assoc (digit_of d) (2 ^ p) (2 ^ k)) in
      let whole : bit_and byte one * 2 ^ p % 4294967296 ≡ digit_of d * 2 ^ p * 2 ^ k =
      ap (λ (n : ℕ). n * 2 ^ p % 4294967296) added
      ∙ mod-eq_of_lt (shifted_small d k p (omega arith) l) ∙ turned in
      ap₂ bit_or before whole
      ∙ or_alike set (digit_of d * 2 ^ p) k
      ∙ ap (λ (n : ℕ). n * 2 ^ k) (put_in d set p ∙ mask_step p (step_at h s o) refl refl)

  -- all steps, shifted down, which have 16 bits
  pub all_steps : (p : ℕ) {steps : ℕ} → p ≡ 16 → steps ≡ steps_below p → steps / 2 ^ bit_and s 7 ≡ mask_below 16 (step_at h s o)
  unfolding steps_below
  all_steps p {steps} all whole =
      ap (λ (k : ℕ). steps / 2 ^ k) (and_mask s 3)
      ∙ ap (λ (n : ℕ). n / 2 ^ (s % 8)) (whole ∙ ap (λ (n : ℕ). mask_below n (step_at h s o) * 2 ^ (s % 8)) all)
      ∙ shl-shr (mask_below 16 (step_at h s o)) (s % 8)

  pub steps_fit : (p : ℕ) {steps : ℕ} → p ≡ 16 → steps ≡ steps_below p → steps / 2 ^ bit_and s 7 < 65536
  steps_fit p all whole = rw (all_steps p all whole) (mask_lt 16 (step_at h s o))
