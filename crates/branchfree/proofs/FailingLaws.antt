-- The bits of the checks that fail: a bit that is masked by another is set where both are, and the lowest bit of all is the first check.
-- Both are seen of every combination of tests.
use Prim.Native.Nat.{ℕ, ◌+◌, ◌*◌, ◌%◌, ◌<◌}
use native.Mathlib.Nat.{one-mul, zero-mul, mod-eq_of_lt}
use native.Mathlib.Omega.{arith}
use mathlib.Core.Path.{◌≡◌, refl, sym, ap₂, ◌∙◌}
use mathlib.Core.Logic.{⊎_elim}
use mathlib.Core.Bool.{Bool, true, false, cond, not, ◌&&◌, ◌||◌}
use mir.Val.{bool_byte}
use lib.Dec.{eqb, ltb}
use lib.Bits.{bit_and, bit_or}
use lib.ListN.{get_or}
use borrow.Author.Tests.{eqb-true, ltb-true, ltb-false}
use Rattle.bits.specs.Bits.{bit}
use Rattle.bits.specs.Bounded.{all_below, lowest_below}
use Rattle.bits.proofs.Booleans.{and_left, and_right, or_right, decide, false_elim}
use Rattle.bits.proofs.BitLaws.{bit_or_lem, bit_pow}
use Rattle.bits.proofs.LowestBit.{below_lowest}
use Rattle.bits.proofs.Bounds.{all_at}
use Rattle.branchfree.specs.Failing.{Failing, first_failing, others_of, number_at, grant_at}

-- ---- every combination of tests

abbrev pub every : (Bool → Bool) → Bool
every p = p true && p false

pub every_at : (p : Bool → Bool) → every p ≡ true → (b : Bool) → p b ≡ true
every_at p all true = and_left (p true) (p false) all
every_at p all false = and_right (p true) (p false) all

-- ---- one bit

-- a test as a number
pub as_one : (b : Bool) {x : ℕ} → x ≡ bool_byte b → x ≡ cond b 1 0
as_one true e = e
as_one false e = e

pub and_ones : (a b : Bool) {x y : ℕ} → x ≡ cond a 1 0 → y ≡ cond b 1 0 → bit_and x y ≡ cond (a && b) 1 0
and_ones true true e f = ap₂ bit_and e f
and_ones true false e f = ap₂ bit_and e f
and_ones false true e f = ap₂ bit_and e f
and_ones false false e f = ap₂ bit_and e f

pub negated : (b : Bool) → ◌≡◌ {A = ℕ} (cond b 0 1) (cond (not b) 1 0)
negated true = refl
negated false = refl

pub or_ones : (a b : Bool) {x y : ℕ} → x ≡ cond a 1 0 → y ≡ cond b 1 0 → bit_or x y ≡ cond (a || b) 1 0
or_ones true true e f = ap₂ bit_or e f
or_ones true false e f = ap₂ bit_or e f
or_ones false true e f = ap₂ bit_or e f
or_ones false false e f = ap₂ bit_or e f

-- the two checks of low-water, with their bits asked for or not
pub two_checks : (a b c : Bool) {x y z : ℕ} → x ≡ cond a 4 0 → y ≡ cond b 8 0 → z ≡ cond c 12 0
    → bit_and (bit_or x y) z ≡ cond (a && c) 4 0 + cond (b && c) 8 0
two_checks true true true e f g = ap₂ bit_and (ap₂ bit_or e f) g
two_checks true true false e f g = ap₂ bit_and (ap₂ bit_or e f) g
two_checks true false true e f g = ap₂ bit_and (ap₂ bit_or e f) g
two_checks true false false e f g = ap₂ bit_and (ap₂ bit_or e f) g
two_checks false true true e f g = ap₂ bit_and (ap₂ bit_or e f) g
two_checks false true false e f g = ap₂ bit_and (ap₂ bit_or e f) g
two_checks false false true e f g = ap₂ bit_and (ap₂ bit_or e f) g
two_checks false false false e f g = ap₂ bit_and (ap₂ bit_or e f) g

-- a bit shifted to its place, w
pub shifted : (w : ℕ) (b : Bool) {x : ℕ} → w < 18446744073709551616 → x ≡ cond b 1 0 → x * w % 18446744073709551616 ≡ cond b w 0
shifted w true l e = rw (e, one-mul w) (mod-eq_of_lt l)
shifted w false l e = rw (e, zero-mul w)

-- a rule that is in force, and one that is not
pub in_force_lem : (on b : Bool) (w : ℕ) → on ≡ true → cond b w 0 ≡ cond (on && b) w 0
in_force_lem on b w e = rw e

pub not_in_force : (on b : Bool) (w : ℕ) → on ≡ false → 0 ≡ cond (on && b) w 0
not_in_force on b w e = rw e

-- ---- all of them

abbrev pub bits_of : Bool → Bool → Bool → Bool → Bool → Bool → ℕ
bits_of a b c d e f =
    bit_or (bit_or (bit_or (cond a 1 0) (cond c 4 0 + cond d 8 0)) (others_of b e f)) 64

abbrev failing : Bool → Bool → Bool → Bool → Bool → Bool → Failing
failing a b c d e f = record { unknown = a; wall = b; rank = c; compartment = d; roles = e; pipeline = f }

abbrev agree : Bool → Bool → Bool → Bool → Bool → Bool → Bool
agree a b c d e f = eqb (lowest_below 64 (bit (bits_of a b c d e f))) (first_failing (failing a b c d e f))

all_agree : every (λ a. every (λ b. every (λ c. every (λ d. every (λ e. every (λ f. agree a b c d e f)))))) ≡ true
unfolding lowest_below bit first_failing others_of
all_agree = refl

pub first_is : (x : Failing)
    → lowest_below 64 (bit (bits_of x.unknown x.wall x.rank x.compartment x.roles x.pipeline)) ≡ first_failing x
first_is x =
    let a = x.unknown in
    let b = x.wall in
    let c = x.rank in
    let d = x.compartment in
    let e = x.roles in
    let f = x.pipeline in
    eqb-true (lowest_below 64 (bit (bits_of a b c d e f))) (first_failing x)
    (every_at (agree a b c d e)
    (every_at (λ e. every (λ f. agree a b c d e f))
    (every_at (λ d. every (λ e. every (λ f. agree a b c d e f)))
    (every_at (λ c. every (λ d. every (λ e. every (λ f. agree a b c d e f))))
    (every_at (λ b. every (λ c. every (λ d. every (λ e. every (λ f. agree a b c d e f)))))
    (every_at (λ a. every (λ b. every (λ c. every (λ d. every (λ e. every (λ f. agree a b c d e f)))))) all_agree a)
    b)
    c)
    d)
    e)
    f)

-- the last bit is always set, so the first is no later
pub first_below : (n : ℕ) → lowest_below 64 (bit (bit_or n 64)) < 7
first_below n =
    ⊎_elim (λ later.
    absurd
    (false_elim (bit (bit_or n 64) 6) (below_lowest 64 (bit (bit_or n 64)) 6 (ltb-true 6 _ later))
    (bit_or_lem n 64 6 ∙ or_right (bit n 6) (bit 64 6) last)))
    (λ e. let m = ltb-false 6 (lowest_below 64 (bit (bit_or n 64))) e in omega (arith, m))
    (decide (ltb 6 (lowest_below 64 (bit (bit_or n 64)))))
  where
    last : bit 64 6 ≡ true
    last = bit_pow 6 6

-- ---- its number, and all bits

pub granted_at : (n : ℕ) → n < 7
    → (get_or grant_at n 0 ≡ cond (eqb n 6) 18446744073709551615 0) × (eqb (get_or number_at n 0) 0 ≡ eqb n 6)
unfolding all_below grant_at number_at
granted_at n l =
    let at = all_at 7 both refl n l in (
      eqb-true _ _ (and_left (eqb (get_or grant_at n 0) (cond (eqb n 6) 18446744073709551615 0)) _ at),
      same _ _ (and_right (eqb (get_or grant_at n 0)
          (cond (eqb n 6) 18446744073709551615 0)) _ at),
    )
  where
    both : ℕ → Bool
    both i =
        eqb (get_or grant_at i 0) (cond (eqb i 6) 18446744073709551615 0)
        && cond (eqb (get_or number_at i 0) 0) (eqb i 6) (not (eqb i 6))

    same : (a b : Bool) → cond a b (not b) ≡ true → a ≡ b
    same true true e = refl
    same true false e = absurd (false_elim false refl e)
    same false true e = absurd (false_elim false refl e)
    same false false e = refl

-- ---- what is not asked about

-- a rule that is not asked about is not in force, where each rule in force is asked about; a parameter is true where its number is not 0
pub unasked : (asked : ℕ) (force : Bool) → (not (eqb asked 0) && force) ≡ force → asked ≡ 0 → force ≡ false
unasked asked force enough none = sym (rw none at enough)
