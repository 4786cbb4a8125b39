-- Updates that are made or not: a number masked by all bits is itself, and one masked by none is 0, so a set narrowed by all is its part in
-- the other, and one narrowed by none is the set; and a bit that is not shifted in leaves the number.
use Prim.Native.Nat.{ℕ, ◌*◌, ◌-◌, ◌/◌, ◌%◌, ◌^◌, ◌<◌}
use native.Mathlib.Nat.{mod-eq_of_lt}
use native.Mathlib.Omega.{arith}
use mathlib.Core.Path.{◌≡◌, refl, ap, ap₂, ◌∙◌}
use mathlib.Core.Logic.{◌≢◌}
use mathlib.Core.Bool.{Bool, true, false, cond, ◌&&◌}
use mathlib.Core.List.{List}
use lib.Bits.{bit_and, bit_or, and_mask, and_comm, and_zero_l, or_zero_r, or_add_and}
use lib.ListN.{get_or, set}
use lib.Seq.{set-get_or}
use Rattle.bits.proofs.BitLaws.{with_masked_bit_if}
use Rattle.policy.specs.History.{with_bit_at}

-- ---- all bits, or none

pub and-true : (b : Bool) → ◌≡◌ {A = ℕ} (cond (b && true) 1 0) (cond b 1 0)
and-true true = refl
and-true false = refl

pub masked_one : (b c : Bool) {all x : ℕ} → all ≡ cond b 18446744073709551615 0 → x ≡ cond c 1 0 → bit_and all x ≡ cond (b && c) 1 0
masked_one true true e f = ap₂ bit_and e f ∙ and_mask 18446744073709551615 1
masked_one true false e f = ap₂ bit_and e f ∙ and_comm 18446744073709551615 0 ∙ and_zero_l 18446744073709551615
masked_one false c {all} {x} e f = ap₂ bit_and e f ∙ and_zero_l (cond c 1 0)

pub masked_all : (b c : Bool) {all x : ℕ} → all ≡ cond b 18446744073709551615 0 → x ≡ cond c 18446744073709551615 0
    → bit_and all x ≡ cond (b && c) 18446744073709551615 0
masked_all true true e f = ap₂ bit_and e f ∙ and_mask 18446744073709551615 64
masked_all true false e f = ap₂ bit_and e f ∙ and_comm 18446744073709551615 0 ∙ and_zero_l 18446744073709551615
masked_all false c {all} {x} e f = ap₂ bit_and e f ∙ and_zero_l (cond c 18446744073709551615 0)

or_all : (n : ℕ) → n < 18446744073709551616 → bit_or n 18446744073709551615 ≡ 18446744073709551615
or_all n l =
    let a : bit_and n 18446744073709551615 ≡ n = and_mask n 64 ∙ mod-eq_of_lt l in
    let s = or_add_and n 18446744073709551615 in
    omega (arith, a, s)

pub narrow : (b : Bool) (own other : ℕ) {all : ℕ} → own < 18446744073709551616 → other < 18446744073709551616
    → all ≡ cond b 18446744073709551615 0 → bit_and own (bit_or other (18446744073709551615 - all)) ≡ cond b (bit_and own other) own
narrow true own other l m e = rw e (ap (bit_and own) (or_zero_r other))
narrow false own other l m e = rw e (ap (bit_and own) (or_all other m) ∙ and_mask own 64 ∙ mod-eq_of_lt l)

-- ---- a bit shifted in, or not

pub set_if : (b : Bool) (h : List ℕ) (i x : ℕ) → x ≡ cond b 1 0
    → set h (i / 8) (bit_or (get_or h (i / 8) 0) (x * 2 ^ bit_and i 7 % 256)) ≡ cond b (with_bit_at h i) h
unfolding with_bit_at
set_if true h i x e = ap (set h (i / 8)) (with_masked_bit_if 3 (get_or h (i / 8) 0) i x true e)
set_if false h i x e =
    ap (set h (i / 8)) (with_masked_bit_if 3 (get_or h (i / 8) 0) i x false e) ∙ set-get_or h (i / 8) 0

-- ---- a test that a number is 1

pub made_one : (b : Bool) {x : ℕ} → x ≡ cond b 1 0 → x ≢ 0 → b ≡ true
made_one true e other = refl
made_one false e other = absurd (other e)

pub made_none : (b : Bool) {x : ℕ} → x ≡ cond b 1 0 → x ≡ 0 → b ≡ false
made_none true {x} e zero = let w : ⊥ = omega (arith, e, zero) in absurd w
made_none false e zero = refl

pub either_way : (b : Bool) (x : List ℕ) → x ≡ cond b x x
either_way true x = refl
either_way false x = refl
