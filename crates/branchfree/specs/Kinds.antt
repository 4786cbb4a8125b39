-- What differs between the kinds of requests, as a row of numbers for each, so that a request is placed with no jump on its kind.
use Rattle.std.specs.Prelude.{ℕ, ◌+◌, ◌*◌, ◌-◌, ◌/◌, ◌%◌, ◌<◌, ◌≡◌, Bool, true, false, cond, not, List, [], ◌∷◌, eqb, get_or}
use Rattle.std.specs.Int.Bits.{bit_and}
use Rattle.policy.specs.Request.{Request, read, write, start, step, subject, index, has_place}
use Rattle.policy.specs.OneMore.{step_of}
use Rattle.branchfree.specs.declared.kinds.Placed.{Placed}

-- the rows of reads, writes, starts and steps, each of 16 numbers: the index of the first bit, the factors of the person and of the folder
-- or second person in an index, the greatest step, the first right, the greatest kind of a folder among the rights, the greatest folder or
-- second person, the checks of low-water, all bits where a grant lowers a level, 1 for an access, the place of the first level among the
-- sets, 1 for a step, and the greatest sixteenth of a step that is looked at
unfoldable pub kind_rows : List ℕ
kind_rows =
    0 ∷ 128 ∷ 1 ∷ 0 ∷ 0 ∷ 15 ∷ 127 ∷ 0 ∷ 18446744073709551615 ∷ 1 ∷ 64 ∷ 0 ∷ 0 ∷ 0 ∷ 0 ∷ 0
    ∷ 8192 ∷ 128 ∷ 1 ∷ 0 ∷ 16 ∷ 15 ∷ 127 ∷ 12 ∷ 0 ∷ 1 ∷ 64 ∷ 0 ∷ 0 ∷ 0 ∷ 0 ∷ 0
    ∷ 16384 ∷ 64 ∷ 1 ∷ 0 ∷ 32 ∷ 0 ∷ 63 ∷ 12 ∷ 0 ∷ 0 ∷ 0 ∷ 0 ∷ 0 ∷ 0 ∷ 0 ∷ 0
    ∷ 20480 ∷ 1 ∷ 1024 ∷ 15 ∷ 48 ∷ 0 ∷ 127 ∷ 12 ∷ 18446744073709551615 ∷ 1 ∷ 64 ∷ 1 ∷ 15 ∷ 0 ∷ 0 ∷ 0
    ∷ []

unfoldable pub row_of : ℕ → ℕ → ℕ
row_of kind j = get_or kind_rows (16 * (kind % 4) + j) 0

-- a request of a kind with these fields, each brought into its range
unfoldable pub placed_by : ℕ → ℕ → ℕ → ℕ → Placed
placed_by kind s o p =
    record {
      person = bit_and s 63;
      place = bit_and o (row_of kind 6);
      step = bit_and p (row_of kind 3);
      set = row_of kind 10 + bit_and o (row_of kind 6);
      index = row_of kind 0 + row_of kind 1 * bit_and s 63 + row_of kind 2 * bit_and o (row_of kind 6) + 64 * bit_and p (row_of kind 3);
      outside =
          cond (not (eqb ((s - bit_and s 63) + (o - bit_and o (row_of kind 6)) + bit_and (p / 16) (row_of kind 12)) 0)) 1 0;
    }

-- the request of one of the four kinds with these fields
unfoldable pub asked_by : ℕ → ℕ → ℕ → ℕ → Request
asked_by kind s o p =
    cond (eqb kind 16) (read s o) (cond (eqb kind 17) (write s o) (cond (eqb kind 18) (start s o) (step s p o)))

-- the right of a request on a folder of a kind
unfoldable pub right_by : ℕ → ℕ → ℕ → ℕ
right_by kind folder p = row_of kind 4 + p + bit_and folder (row_of kind 5)

-- ---- what these numbers are of a request

-- its folder, or the second person of a start
unfoldable pub place_of : Request → ℕ
place_of (read s o) = o
place_of (write s o) = o
place_of (start s u) = u
place_of (step s p o) = o

-- the place of its level among the sets: persons first, then folders
unfoldable pub target_of : Request → ℕ
target_of (read s o) = 64 + o
target_of (write s o) = 64 + o
target_of (start s u) = u
target_of (step s p o) = 64 + o

-- low-water asks about it, it lowers its person, it is an access, it is a step
unfoldable pub asks_level : Request → Bool
asks_level (read s o) = false
asks_level (write s o) = true
asks_level (start s u) = true
asks_level (step s p o) = true

unfoldable pub lowers : Request → Bool
lowers (read s o) = true
lowers (write s o) = false
lowers (start s u) = false
lowers (step s p o) = true

unfoldable pub is_access : Request → Bool
is_access (read s o) = true
is_access (write s o) = true
is_access (start s u) = false
is_access (step s p o) = true

unfoldable pub is_step : Request → Bool
is_step (read s o) = false
is_step (write s o) = false
is_step (start s u) = false
is_step (step s p o) = true

-- the numbers of a request that is in range
pub record Exact (q : Request) (x : Placed) : Type 0 where
  pub person : x.person ≡ subject q
  pub place : x.place ≡ place_of q
  pub step : x.step ≡ step_of q
  pub set : x.set ≡ target_of q
  pub index : x.index ≡ index q

-- the numbers of any request: within bounds, and its own if it is in range
pub record PlacedAs (q : Request) (x : Placed) : Type 0 where
  pub person_below : x.person < 64
  pub place_below : x.place < 128
  pub step_below : x.step < 16
  pub set_below : x.set < 192
  pub index_below : x.index < 151552
  pub outside : x.outside ≡ cond (has_place q) 0 1
  pub exact : has_place q ≡ true → Exact q x

-- the row of a request
pub record RowOf (q : Request) (kind : ℕ) : Type 0 where
  pub asks : row_of kind 7 ≡ cond (asks_level q) 12 0
  pub low : row_of kind 8 ≡ cond (lowers q) 18446744073709551615 0
  pub access : row_of kind 9 ≡ cond (is_access q) 1 0
  pub step : row_of kind 11 ≡ cond (is_step q) 1 0
