-- Turning 64 rows of 64 bits round, in six stages: each stage exchanges one digit of a row's number with one digit of a column's. A stage
-- merges row i and row 32 + i into the rows 2 * i and 2 * i + 1; its width is the power of two whose digit of the column's number it takes.
use Rattle.std.specs.Prelude.{ℕ, ◌+◌, ◌-◌, ◌*◌, ◌/◌, ◌%◌, ◌^◌, ◌<◌, ◌≡◌, Bool, true, cond, not, ◌&&◌, ◌||◌, List, eqb, ltb, leb, get_or}
use Rattle.bits.specs.Bits.{bit, mask_below}
use Rattle.bits.specs.Bounded.{all_below}

-- the bits of x at the columns whose digit is 0, and at each other column the bit of y that stands `width` before it
unfoldable pub merged : ℕ → ℕ → ℕ → ℕ
merged width x y = mask_below 64 (λ j. cond (eqb (j / width % 2) 0) (bit x j) (bit y (j - width)))

-- `low` has the bit of each column whose digit is 0, and no other
unfoldable pub has_evens : ℕ → ℕ → ℕ → Bool
has_evens width low j =
    cond (eqb (j / width % 2) 0)
    (bit low j && (ltb j width || not (bit low (j - width))))
    (not (bit low j) && leb width j && bit low (j - width))

unfoldable pub evens : ℕ → ℕ → Bool
evens width low = ltb low (2 ^ (64 - width)) && all_below 64 (has_evens width low)

-- as many ones as the width says, then as many zeros, and so on, in 64 bits
abbrev pub low_columns : ℕ → ℕ
low_columns width = 18446744073709551615 / (2 ^ width + 1)

-- a stage's width: these are the columns whose digit is 0
pub record IsStage (width : ℕ) : Type 0 where
  pub narrow : width < 64
  pub columns : evens width (low_columns width) ≡ true

-- the row and the column from which a stage takes the bit of a row and a column
unfoldable pub row_from : ℕ → ℕ → ℕ → ℕ
row_from width i j = i / 2 + 32 * (j / width % 2)

unfoldable pub column_from : ℕ → ℕ → ℕ → ℕ
column_from width i j = width * (i % 2) + (j - width * (j / width % 2))

-- row i after a stage
unfoldable pub stage_row : ℕ → List ℕ → ℕ → ℕ
stage_row width rows i = mask_below 64 (λ j. bit (get_or rows (row_from width i j) 0) (column_from width i j))

-- row i of the rows turned round: column i of the rows
unfoldable pub turned_row : List ℕ → ℕ → ℕ
turned_row rows i = mask_below 64 (λ j. bit (get_or rows j 0) i)
