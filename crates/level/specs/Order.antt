-- What the order and the meet of levels are (document 01, "Levels"), for every number w of compartment bits.
use Rattle.std.specs.Prelude.{ℕ, ◌+◌, ◌-◌, ◌^◌, ◌≤◌, ◌<◌, min, ◌≡◌, ◌↔◌, true, false, ◌&&◌}
use Rattle.bits.specs.Bits.{bit}
use Rattle.level.specs.declared.Comparison.TheVariants.{AtMost, RankTooLow, CompartmentMissing}
use Rattle.level.specs.Levels.{rank_of, compartments_of, level_of, compare_of, at_most, meet_of}

pub record Ordered (w : ℕ) : Type 0 where
  -- a level is its rank and its compartments, which are the w low bits
  pub rank : (r c : ℕ) → c < 2 ^ w → rank_of w (level_of w r c) ≡ r
  pub compartments : (r c : ℕ) → c < 2 ^ w → compartments_of w (level_of w r c) ≡ c
  pub whole : (a : ℕ) → level_of w (rank_of w a) (compartments_of w a) ≡ a
  -- a ≤ b when rank a ≤ rank b and every compartment of a is in b
  pub below :
      (a b : ℕ)
      → (at_most w a b ≡ true)
      ↔ ((rank_of w a ≤ rank_of w b) × ((k : ℕ) → bit (compartments_of w a) k ≡ true → bit (compartments_of w b) k ≡ true))
  -- comparing tells three outcomes (document 02, Point 5): a ≤ b; the rank of b is too low, also if a compartment is missing besides; the
  -- rank of b suffices, and some compartment of a is not in b
  pub compared_below : (a b : ℕ) → (compare_of w a b ≡ AtMost) ↔ (at_most w a b ≡ true)
  pub compared_rank : (a b : ℕ) → (compare_of w a b ≡ RankTooLow) ↔ (rank_of w b < rank_of w a)
  pub compared_compartment :
      (a b : ℕ)
      → (compare_of w a b ≡ CompartmentMissing)
      ↔ ((rank_of w a ≤ rank_of w b)
      × ((k : ℕ) × (bit (compartments_of w a) k ≡ true) × (bit (compartments_of w b) k ≡ false)))
  pub reflexive : (a : ℕ) → at_most w a a ≡ true
  pub transitive : (a b c : ℕ) → at_most w a b ≡ true → at_most w b c ≡ true → at_most w a c ≡ true
  pub antisymmetric : (a b : ℕ) → at_most w a b ≡ true → at_most w b a ≡ true → a ≡ b
  -- the meet has the smaller rank and the common compartments; what is at most it is what is at most both
  pub meet_rank : (a b : ℕ) → rank_of w (meet_of w a b) ≡ min (rank_of w a) (rank_of w b)
  pub meet_compartments :
      (a b k : ℕ)
      → bit (compartments_of w (meet_of w a b)) k ≡ bit (compartments_of w a) k && bit (compartments_of w b) k
  pub meet : (a b c : ℕ) → at_most w c (meet_of w a b) ≡ at_most w c a && at_most w c b
  -- the lowest level is 0, and the highest of w + v bits has all of them
  pub lowest : (a : ℕ) → at_most w 0 a ≡ true
  pub highest : (v a : ℕ) → a < 2 ^ (w + v) → at_most w a (2 ^ (w + v) - 1) ≡ true

abbrev pub Order : Type 0
Order = (w : ℕ) → Ordered w
