-- Levels are ordered: `at_most` is a partial order, the meet is the greatest level that is at most both, 0 is the lowest level, and the
-- number whose bits are all set is the highest. Ranks are ordered as numbers and compartments as sets, and a level is its rank and its
-- compartments together. The laws hold for every number w of compartment bits.
use Prim.Native.Nat.{ℕ, ◌+◌, ◌-◌, ◌*◌, ◌/◌, ◌%◌, ◌^◌, ◌≤◌, ◌<◌, min}
use native.Mathlib.Nat.{mod-lt, mod-mod, zero-mod, add_comm, add-le-add, mul-le-mul_right, lt_of_le_of_lt}
use native.Mathlib.Omega.{arith}
use mathlib.Core.Path.{◌≡◌, sym, ap, ap₂, ◌∙◌, subst}
use mathlib.Core.Bool.{true, ◌&&◌}
use lib.Bits.{bit_and, and_self, and_comm, and_le_l, and_zero_l, and_mask, and_high}
use lib.Dec.{leb}
use lib.Pow as Pow
use borrow.Author.Tests.{le-leb, leb-true, eq-eqb, eqb-true}
use Rattle.bits.proofs.Booleans.{and_left, and_right, and_both, bool_ext}
use Rattle.bits.proofs.BitLaws.{and_assoc}
use Rattle.level.specs.Levels.{rank_of, compartments_of, level_of, at_most, meet_of}
use Rattle.level.proofs.Comparing.{at_most_tests}

-- ---- a level and its parts

pub level_whole : (w a : ℕ) → level_of w (rank_of w a) (compartments_of w a) ≡ a
unfolding level_of rank_of compartments_of
level_whole w a = Pow.split a w

pub rank_level : (w r c : ℕ) → c < 2 ^ w → rank_of w (level_of w r c) ≡ r
unfolding level_of rank_of
rank_level w r c h = Pow.high r w h

pub compartments_level : (w r c : ℕ) → c < 2 ^ w → compartments_of w (level_of w r c) ≡ c
unfolding level_of compartments_of
compartments_level w r c h = Pow.low r w h

-- the bits of a level above its compartments are its rank, shifted up
pub rank_above : (w v a : ℕ) → a < 2 ^ (v + w) → bit_and a (2 ^ (v + w) - 2 ^ w) ≡ rank_of w a * 2 ^ w
unfolding rank_of
rank_above w v a h = and_high a v w ∙ ap (λ (r : ℕ). r * 2 ^ w) (Pow.shr_mod v w h)

pub compartments_lt : (w a : ℕ) → compartments_of w a < 2 ^ w
unfolding compartments_of
compartments_lt w a = mod-lt a (Pow.pow_pos w)

-- the compartments that a and b have in common
pub common_lt : (w a b : ℕ) → bit_and (compartments_of w a) (compartments_of w b) < 2 ^ w
common_lt w a b = lt_of_le_of_lt (and_le_l (compartments_of w a) (compartments_of w b)) (compartments_lt w a)

-- ---- the order, as two facts

pub at_most_rank : (w a b : ℕ) → at_most w a b ≡ true → rank_of w a ≤ rank_of w b
at_most_rank w a b e = leb-true _ _ (and_left _ _ (sym (at_most_tests w a b) ∙ e))

pub at_most_subset : (w a b : ℕ) → at_most w a b ≡ true
    → bit_and (compartments_of w a) (compartments_of w b) ≡ compartments_of w a
at_most_subset w a b e = eqb-true _ _ (and_right (leb (rank_of w a) (rank_of w b)) _ (sym (at_most_tests w a b) ∙ e))

pub at_most_intro : (w a b : ℕ) → rank_of w a ≤ rank_of w b
    → bit_and (compartments_of w a) (compartments_of w b) ≡ compartments_of w a
    → at_most w a b ≡ true
at_most_intro w a b ranks subset = at_most_tests w a b ∙ and_both _ _ (le-leb _ _ ranks) (eq-eqb _ _ subset)

-- ---- a partial order

pub at_most_refl : (w a : ℕ) → at_most w a a ≡ true
at_most_refl w a = at_most_intro w a a (omega arith) (and_self (compartments_of w a))

pub at_most_trans : (w a b c : ℕ) → at_most w a b ≡ true → at_most w b c ≡ true → at_most w a c ≡ true
at_most_trans w a b c p q =
    let A = compartments_of w a in
    let B = compartments_of w b in
    let C = compartments_of w c in
    let ab : bit_and A B ≡ A = at_most_subset w a b p in
    at_most_intro w a c (omega (arith, at_most_rank w a b p, at_most_rank w b c q))
    (ap (λ (x : ℕ). bit_and x C) (sym ab) ∙ and_assoc A B C ∙ ap (bit_and A) (at_most_subset w b c q) ∙ ab)

pub at_most_antisym : (w a b : ℕ) → at_most w a b ≡ true → at_most w b a ≡ true → a ≡ b
at_most_antisym w a b p q =
    let ranks : rank_of w a ≡ rank_of w b = omega (arith, at_most_rank w a b p, at_most_rank w b a q) in
    let sets : compartments_of w a ≡ compartments_of w b =
    sym (at_most_subset w a b p) ∙ and_comm (compartments_of w a) (compartments_of w b) ∙ at_most_subset w b a q in
    sym (level_whole w a) ∙ ap₂ (level_of w) ranks sets ∙ level_whole w b

-- ---- the meet

pub rank_meet : (w a b : ℕ) → rank_of w (meet_of w a b) ≡ min (rank_of w a) (rank_of w b)
unfolding meet_of
rank_meet w a b = rank_level w _ _ (common_lt w a b)

pub compartments_meet : (w a b : ℕ)
    → compartments_of w (meet_of w a b) ≡ bit_and (compartments_of w a) (compartments_of w b)
unfolding meet_of
compartments_meet w a b = compartments_level w _ _ (common_lt w a b)

pub meet_comm : (w a b : ℕ) → meet_of w a b ≡ meet_of w b a
unfolding meet_of
meet_comm w a b = ap₂ (level_of w) (omega arith) (and_comm (compartments_of w a) (compartments_of w b))

pub meet_left : (w a b : ℕ) → at_most w (meet_of w a b) a ≡ true
meet_left w a b =
    let A = compartments_of w a in
    let B = compartments_of w b in
    at_most_intro w (meet_of w a b) a (omega (arith, rank_meet w a b))
    (ap (λ (x : ℕ). bit_and x A) (compartments_meet w a b) ∙ and_assoc A B A ∙ ap (bit_and A) (and_comm B A)
    ∙ sym (and_assoc A A B) ∙ ap (λ (x : ℕ). bit_and x B) (and_self A) ∙ sym (compartments_meet w a b))

pub meet_right : (w a b : ℕ) → at_most w (meet_of w a b) b ≡ true
meet_right w a b = subst (λ (m : ℕ). at_most w m b ≡ true) (meet_comm w b a) (meet_left w b a)

pub meet_greatest : (w a b c : ℕ) → at_most w c a ≡ true → at_most w c b ≡ true → at_most w c (meet_of w a b) ≡ true
meet_greatest w a b c p q =
    let A = compartments_of w a in
    let B = compartments_of w b in
    let C = compartments_of w c in
    at_most_intro w c (meet_of w a b) (omega (arith, rank_meet w a b, at_most_rank w c a p, at_most_rank w c b q))
    (ap (bit_and C) (compartments_meet w a b) ∙ sym (and_assoc C A B) ∙ ap (λ (x : ℕ). bit_and x B) (at_most_subset w c a p)
    ∙ at_most_subset w c b q)

-- at most the meet is at most both
pub split : (w a b c : ℕ) → at_most w c (meet_of w a b) ≡ at_most w c a && at_most w c b
split w a b c =
    bool_ext _ _
    (λ h.
    and_both _ _ (at_most_trans w c (meet_of w a b) a h (meet_left w a b))
    (at_most_trans w c (meet_of w a b) b h (meet_right w a b)))
    (λ h. meet_greatest w a b c (and_left _ _ h) (and_right (at_most w c a) _ h))

-- ---- the lowest and the highest level, and the numbers that levels are

pub lowest_least : (w a : ℕ) → at_most w 0 a ≡ true
unfolding rank_of compartments_of
lowest_least w a =
    at_most_intro w 0 a (Pow.shr_mono w (omega arith)) (rw (zero-mod (2 ^ w)) (and_zero_l (a % 2 ^ w)))

pub highest_greatest : (w v a : ℕ) → a < 2 ^ (w + v) → at_most w a (2 ^ (w + v) - 1) ≡ true
unfolding rank_of compartments_of
highest_greatest w v a h =
    let top = 2 ^ (w + v) - 1 in
    let low : top % 2 ^ w ≡ 2 ^ w - 1 =
    ap (λ (x : ℕ). (2 ^ x - 1) % 2 ^ w) (add_comm w v) ∙ ap (λ (x : ℕ). x % 2 ^ w) (Pow.ones_split v w)
    ∙ Pow.low (2 ^ v - 1) w (Pow.ones_lt w) in
    at_most_intro w a top (Pow.shr_mono w (Pow.le_ones (w + v) h))
    (ap (bit_and (a % 2 ^ w)) low ∙ and_mask (a % 2 ^ w) w ∙ mod-mod a (2 ^ w))

-- as a number, the meet is no greater than the first level
pub meet_le : (w a b : ℕ) → meet_of w a b ≤ a
unfolding meet_of level_of rank_of compartments_of
meet_le w a b =
    subst (λ (x : ℕ). min (a / 2 ^ w) (b / 2 ^ w) * 2 ^ w + bit_and (a % 2 ^ w) (b % 2 ^ w) ≤ x) (Pow.split a w)
    (add-le-add (mul-le-mul_right (2 ^ w) (omega arith)) (and_le_l (a % 2 ^ w) (b % 2 ^ w)))

pub meet_lt : (w v a b : ℕ) → a < 2 ^ (w + v) → meet_of w a b < 2 ^ (w + v)
meet_lt w v a b h = lt_of_le_of_lt (meet_le w a b) h
