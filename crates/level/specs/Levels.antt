-- Levels (document 01, "Levels"): a rank above w compartment bits. Every definition takes w; document 01's levels have w = 12.
use Rattle.std.specs.Prelude.{ℕ, ◌+◌, ◌*◌, ◌/◌, ◌%◌, ◌^◌, min, Bool, true, false, cond, leb, eqb}
use Rattle.std.specs.Int.Bits.{bit_and}
use Rattle.level.specs.declared.Comparison.{Comparison}
use Rattle.level.specs.declared.Comparison.TheVariants.{AtMost, RankTooLow, CompartmentMissing}

-- the rank: what stands above the w low bits
unfoldable pub rank_of : ℕ → ℕ → ℕ
rank_of w a = a / 2 ^ w

-- the compartments: the set that the w low bits are
unfoldable pub compartments_of : ℕ → ℕ → ℕ
compartments_of w a = a % 2 ^ w

-- the level of a rank and a set of compartments
unfoldable pub level_of : ℕ → ℕ → ℕ → ℕ
level_of w r c = r * 2 ^ w + c

-- how a compares with b (document 02, Point 5): a's rank must be at most b's, and then every compartment of a must be in b
unfoldable pub compare_of : ℕ → ℕ → ℕ → Comparison
compare_of w a b =
    cond (leb (rank_of w a) (rank_of w b))
    (cond (eqb (bit_and (compartments_of w a) (compartments_of w b)) (compartments_of w a)) AtMost CompartmentMissing)
    RankTooLow

-- the outcome is "at most"
unfoldable pub is_at_most : Comparison → Bool
is_at_most AtMost = true
is_at_most RankTooLow = false
is_at_most CompartmentMissing = false

-- a ≤ b: rank a ≤ rank b, and every compartment of a is in b
unfoldable pub at_most : ℕ → ℕ → ℕ → Bool
at_most w a b = is_at_most (compare_of w a b)

-- the meet: the smaller rank and the common compartments
unfoldable pub meet_of : ℕ → ℕ → ℕ → ℕ
meet_of w a b =
    level_of w (min (rank_of w a) (rank_of w b)) (bit_and (compartments_of w a) (compartments_of w b))
