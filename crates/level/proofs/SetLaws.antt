-- A level as a set of bits: its rank, its compartments and its mark stand in bits of their own, so that "and" works on each apart, and the
-- common part of two ranks in unary is the smaller of them. So "and" of two sets is the set of the meet, and the two tests of a comparison
-- are tests of masked bits.
use Prim.Native.Nat.{ℕ, ◌+◌, ◌*◌, ◌-◌, ◌/◌, ◌%◌, ◌^◌, ◌≤◌, ◌<◌, min}
use native.Mathlib.Nat.{mod-eq_of_lt, one-mul}
use native.Mathlib.Omega.{arith}
use mathlib.Core.Path.{◌≡◌, refl, sym, ap, ap₂, ◌∙◌}
use mathlib.Core.Logic.{⊎_elim}
use mathlib.Core.Bool.{Bool, true, false, cond, not, ◌&&◌, ◌||◌}
use lib.Bits.{bit_and, bit_or, and_comm, and_mask, and_mod, and_shr, and_block, and_high, or_shr}
use lib.Dec.{leb, eqb, lit<, lit≤}
use lib.Pow as Pow
use mir.Val.{bool_byte}
use borrow.Author.Tests.{leb-true, leb-false, eq-eqb, eqb-true}
use Rattle.bits.specs.Bits.{bit}
use Rattle.bits.specs.Bounded.{lowest_below}
use Rattle.bits.proofs.Booleans.{bool_ext, decide}
use Rattle.bits.proofs.BitLaws.{bit_pow, or_above, above_lt}
use Rattle.bits.proofs.LowestBit.{lowest_set}
use Rattle.level.specs.declared.Comparison.TheVariants.{AtMost, RankTooLow, CompartmentMissing}
use Rattle.level.specs.Levels.{rank_of, compartments_of, level_of, compare_of, meet_of}
use Rattle.level.specs.Sets.{level_set}
use Rattle.level.proofs.LevelLaws.{level_whole, compartments_lt, rank_meet, compartments_meet}

-- ---- ranks in unary

pub rank_lt : (a : ℕ) → a < 65536 → rank_of 12 a < 16
unfolding rank_of
rank_lt a l = omega arith

unary_lt : (a : ℕ) → a < 65536 → 2 ^ rank_of 12 a - 1 < 2 ^ 15
unary_lt a l =
    let ranks : rank_of 12 a ≤ 15 = omega (arith, rank_lt a l) in
    let most : 2 ^ rank_of 12 a ≤ 2 ^ 15 = Pow.pow_mono ranks in
    omega (arith, Pow.pow_pos (rank_of 12 a))

smaller_first : (j k : ℕ) → j ≤ k → bit_and (2 ^ j - 1) (2 ^ k - 1) ≡ 2 ^ j - 1
smaller_first j k l =
    and_mask (2 ^ j - 1) k ∙ mod-eq_of_lt (let most : 2 ^ j ≤ 2 ^ k = Pow.pow_mono l in omega (arith, Pow.pow_pos j))

-- the common part is the smaller rank
unary_and : (j k : ℕ) → bit_and (2 ^ j - 1) (2 ^ k - 1) ≡ 2 ^ min j k - 1
unary_and j k =
    ⊎_elim
    (λ t.
    let l = leb-true j k t in
    let m : j ≡ min j k = omega arith in
    smaller_first j k l ∙ ap (λ (x : ℕ). 2 ^ x - 1) m)
    (λ f.
    let l = leb-false j k f in
    let m : k ≡ min j k = omega arith in
    and_comm (2 ^ j - 1) (2 ^ k - 1) ∙ smaller_first k j (omega arith) ∙ ap (λ (x : ℕ). 2 ^ x - 1) m)
    (decide (leb j k))

-- a rank is part of another where it is at most the other
unary_part : (j k : ℕ) → eqb (2 ^ min j k - 1) (2 ^ j - 1) ≡ leb j k
unary_part j k =
    bool_ext _ _
    (λ e.
    ⊎_elim (λ t. t)
    (λ f.
    let l = leb-false j k f in
    let m : min j k ≡ k = omega arith in
    let same : 2 ^ k - 1 ≡ 2 ^ j - 1 = rw m at (eqb-true (2 ^ min j k - 1) (2 ^ j - 1) e) in
    let z : ⊥ = omega (arith, Pow.pow-lt l, Pow.pow_pos k) in
    absurd z)
    (decide (leb j k)))
    (λ t.
    let l = leb-true j k t in
    let m : min j k ≡ j = omega arith in
    eq-eqb _ _ (ap (λ (x : ℕ). 2 ^ x - 1) m))

-- 1 more than a rank in unary has one bit, whose number is the rank
pub unary_rank : (r : ℕ) → r < 64 → lowest_below 64 (bit (2 ^ r - 1 + 1)) ≡ r
unary_rank r l =
    let next : 2 ^ r - 1 + 1 ≡ 2 ^ r = omega (arith, Pow.pow_pos r) in
    rw next (eqb-true _ r (sym (bit_pow r _) ∙ lowest_set 64 (2 ^ r) (Pow.pow_pos r) (Pow.pow-lt l)))

-- ---- the parts of a set

module _ (a : ℕ) (mark : Bool) (l : a < 65536) where
  pub set_rank : level_set a mark % 2 ^ 15 ≡ 2 ^ rank_of 12 a - 1
  unfolding level_set
  set_rank = Pow.low (cond mark 1 0 * 2 ^ 12 + compartments_of 12 a) 15 (unary_lt a l)

  set_above : level_set a mark / 2 ^ 15 ≡ cond mark 1 0 * 2 ^ 12 + compartments_of 12 a
  unfolding level_set
  set_above = Pow.high (cond mark 1 0 * 2 ^ 12 + compartments_of 12 a) 15 (unary_lt a l)

  pub set_compartments : level_set a mark / 2 ^ 15 % 2 ^ 12 ≡ compartments_of 12 a
  set_compartments = ap (λ (x : ℕ). x % 2 ^ 12) set_above ∙ Pow.low (cond mark 1 0) 12 (compartments_lt 12 a)

  pub set_mark : level_set a mark / 2 ^ 27 ≡ cond mark 1 0
  set_mark =
      sym (Pow.shr-shr (level_set a mark) 15 12) ∙ ap (λ (x : ℕ). x / 2 ^ 12) set_above
      ∙ Pow.high (cond mark 1 0) 12 (compartments_lt 12 a)

-- `1 << rank`
pub one_shifted : (r : ℕ) → r < 64 → (1 * 2 ^ r) % 2 ^ 64 ≡ 2 ^ r
one_shifted r l = Pow.shl_exact 1 r 64 (lit< tt) (omega arith) ∙ one-mul (2 ^ r)

-- a test as a number
byte_cond : (b : Bool) → bool_byte b ≡ cond b 1 0
byte_cond true = refl
byte_cond false = refl

byte_lt : (b : Bool) → bool_byte b < 2
byte_lt true = lit< tt
byte_lt false = lit< tt

-- `((1 << rank) - 1) | ((compartments | (mark << 12)) << 15)`
pub made : (a : ℕ) (mark : Bool) {r c x : ℕ} → a < 65536 → r ≡ rank_of 12 a → c ≡ compartments_of 12 a → x ≡ bool_byte mark
    → bit_or ((1 * 2 ^ r) % 2 ^ 64 - 1) ((bit_or c ((x * 2 ^ 12) % 2 ^ 64) * 2 ^ 15) % 2 ^ 64) ≡ level_set a mark
unfolding level_set
made a mark {r} {c} {x} l rank compartments marked =
    let most : x < 2 = rw marked (byte_lt mark) in
    let small : c < 2 ^ 12 = rw compartments (compartments_lt 12 a) in
    let unary : 2 ^ r - 1 < 2 ^ 15 = rw rank (unary_lt a l) in
    rw (one_shifted r (let h = rank_lt a l in omega arith), or_above 12 1 64 c x small most (lit≤ tt))
    (or_above 15 13 64 (2 ^ r - 1) (c + 2 ^ 12 * x) unary (above_lt 12 1 c x small most) (lit≤ tt)
    ∙ rw (rank, compartments, marked, byte_cond mark) (omega arith))

-- the level of a rank that the lowest bit of 1 more tells, and of the compartments above it
pub read_back : (a : ℕ) (mark : Bool) {set lowest x : ℕ} → a < 65536 → set ≡ level_set a mark
    → lowest ≡ lowest_below 64 (bit (bit_and set (2 ^ 15 - 1) + 1))
    → x ≡ level_of 12 (bit_and lowest (2 ^ 4 - 1) % 16) (bit_and (set / 2 ^ 15) (2 ^ 12 - 1) % 4096) → x ≡ a
read_back a mark {set} {lowest} l is found built =
    let unary : bit_and set (2 ^ 15 - 1) ≡ 2 ^ rank_of 12 a - 1 = rw is (and_mask (level_set a mark) 15 ∙ set_rank a mark l) in
    let rank : lowest ≡ rank_of 12 a =
    found ∙ rw unary (unary_rank (rank_of 12 a) (let h = rank_lt a l in omega arith)) in
    let ranks : bit_and lowest (2 ^ 4 - 1) % 16 ≡ rank_of 12 a = omega (arith, and_mask lowest 4, rank_lt a l) in
    let above : bit_and (set / 2 ^ 15) (2 ^ 12 - 1) ≡ compartments_of 12 a =
    rw is (and_mask (level_set a mark / 2 ^ 15) 12 ∙ set_compartments a mark l) in
    let compartments : bit_and (set / 2 ^ 15) (2 ^ 12 - 1) % 4096 ≡ compartments_of 12 a = omega (arith, above, compartments_lt 12 a) in
    built ∙ ap₂ (level_of 12) ranks compartments ∙ level_whole 12 a

-- ---- two sets

marks_and : (m n : Bool) → bit_and (cond m 1 0) (cond n 1 0) ≡ cond (m && n) 1 0
marks_and true true = refl
marks_and true false = refl
marks_and false n = refl

marks_or : (m n : Bool) → eqb (bit_and (bit_or (cond m 1 0) (cond n 1 0)) 1) 1 ≡ (m || n)
marks_or true true = refl
marks_or true false = refl
marks_or false true = refl
marks_or false false = refl

module _ (a b : ℕ) (m n : Bool) (la : a < 65536) (lb : b < 65536) where
  -- "and" of two sets is the set of the meet, marked where both are
  pub meet : bit_and (level_set a m) (level_set b n) ≡ level_set (meet_of 12 a b) (m && n)
  unfolding level_set
  meet =
      and_block 15 (cond m 1 0 * 2 ^ 12 + compartments_of 12 a) (cond n 1 0 * 2 ^ 12 + compartments_of 12 b) _ _ (unary_lt a la)
      (unary_lt b lb)
      ∙ ap₂ (λ (x y : ℕ). x * 2 ^ 15 + y)
      (and_block 12 (cond m 1 0) (cond n 1 0) _ _ (compartments_lt 12 a) (compartments_lt 12 b)
      ∙ ap₂ (λ (x y : ℕ). x * 2 ^ 12 + y) (marks_and m n) (sym (compartments_meet 12 a b)))
      (unary_and (rank_of 12 a) (rank_of 12 b) ∙ ap (λ (r : ℕ). 2 ^ r - 1) (sym (rank_meet 12 a b)))

  -- `needed & own & 32767 == needed & 32767`
  pub rank_part : eqb (bit_and (bit_and (level_set a m) (level_set b n)) (2 ^ 15 - 1)) (bit_and (level_set a m) (2 ^ 15 - 1))
      ≡ leb (rank_of 12 a) (rank_of 12 b)
  rank_part =
      ap₂ eqb
      (and_mask (bit_and (level_set a m) (level_set b n)) 15 ∙ and_mod (level_set a m) (level_set b n) 15
      ∙ ap₂ bit_and (set_rank a m la) (set_rank b n lb) ∙ unary_and (rank_of 12 a) (rank_of 12 b))
      (and_mask (level_set a m) 15 ∙ set_rank a m la)
      ∙ unary_part (rank_of 12 a) (rank_of 12 b)

  common : bit_and (level_set a m) (level_set b n) / 2 ^ 15 % 2 ^ 12 ≡ bit_and (compartments_of 12 a) (compartments_of 12 b)
  common =
      ap (λ (x : ℕ). x % 2 ^ 12) (and_shr (level_set a m) (level_set b n) 15)
      ∙ and_mod (level_set a m / 2 ^ 15) (level_set b n / 2 ^ 15) 12
      ∙ ap₂ bit_and (set_compartments a m la) (set_compartments b n lb)

  -- `needed & own & 134184960 == needed & 134184960`
  pub compartments_part :
      eqb (bit_and (bit_and (level_set a m) (level_set b n)) (2 ^ (12 + 15) - 2 ^ 15)) (bit_and (level_set a m) (2 ^ (12 + 15) - 2 ^ 15))
      ≡ eqb (bit_and (compartments_of 12 a) (compartments_of 12 b)) (compartments_of 12 a)
  compartments_part =
      ap₂ eqb
      (and_high (bit_and (level_set a m) (level_set b n)) 12 15 ∙ ap (λ (x : ℕ). x * 2 ^ 15) common)
      (and_high (level_set a m) 12 15 ∙ ap (λ (x : ℕ). x * 2 ^ 15) (set_compartments a m la))
      ∙ shifted (bit_and (compartments_of 12 a) (compartments_of 12 b)) (compartments_of 12 a)
    where
      shifted : (x y : ℕ) → eqb (x * 2 ^ 15) (y * 2 ^ 15) ≡ eqb x y
      shifted x y =
          bool_ext _ _ (λ e. let same = eqb-true (x * 2 ^ 15) (y * 2 ^ 15) e in eq-eqb x y (omega arith))
          (λ e. eq-eqb _ _ (ap (λ (z : ℕ). z * 2 ^ 15) (eqb-true x y e)))

  -- `((needed | own) >> 27) & 1 == 1`
  pub either_marked : eqb (bit_and (bit_or (level_set a m) (level_set b n) / 2 ^ 27) 1) 1 ≡ (m || n)
  either_marked =
      ap (λ (x : ℕ). eqb (bit_and x 1) 1)
      (or_shr (level_set a m) (level_set b n) 27 ∙ ap₂ bit_or (set_mark a m la) (set_mark b n lb))
      ∙ marks_or m n

-- ---- the outcome of a comparison, of the two tests

by_tests : (ranks sets : Bool)
    → cond ranks (cond sets AtMost CompartmentMissing) RankTooLow ≡ cond (not ranks) RankTooLow (cond (not sets) CompartmentMissing AtMost)
by_tests true true = refl
by_tests true false = refl
by_tests false sets = refl

pub outcome : (a b : ℕ)
    → compare_of 12 a b
    ≡ cond (not (leb (rank_of 12 a) (rank_of 12 b))) RankTooLow
    (cond (not (eqb (bit_and (compartments_of 12 a) (compartments_of 12 b)) (compartments_of 12 a))) CompartmentMissing AtMost)
unfolding compare_of
outcome a b =
    by_tests (leb (rank_of 12 a) (rank_of 12 b))
    (eqb (bit_and (compartments_of 12 a) (compartments_of 12 b)) (compartments_of 12 a))
