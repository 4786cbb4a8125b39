-- Sorting by pairs: an order of the places below a bound in which each may come before each later one, where the row of a place is the set
-- of the places that it may not come before.
use Rattle.std.specs.Prelude.{ℕ, ◌-◌, ◌<◌, ◌≡◌, Bool, true, false, get_or, replicate, Option, MatchOption}
use mathlib.Core.List.{List, [], ◌∷◌, ◌++◌, Memᴰ, Perm}
use Rattle.bits.specs.Bits.{bit}
use Rattle.policy.specs.Plans.{places}

-- place i may not come before place j
abbrev pub blocked : List ℕ → ℕ → ℕ → Bool
blocked rows i j = bit (get_or rows i 0) j

-- a pending place that may come before every pending one
pub record Free (rows : List ℕ) (pending i : ℕ) : Type 0 where
  pub below : i < 64
  pub waits : bit pending i ≡ true
  pub first : (j : ℕ) → bit pending j ≡ true → blocked rows i j ≡ false

abbrev pub AllBlocked : List ℕ → ℕ → Type 0
AllBlocked rows pending = (i : ℕ) → bit pending i ≡ true → (j : ℕ) × (bit pending j ≡ true) × (blocked rows i j ≡ true)

-- such a place, or none where each may not come before some pending one
abbrev pub FirstFree : List ℕ → ℕ → Option ℕ → Type 0
FirstFree rows pending place = MatchOption place (AllBlocked rows pending) (Free rows pending)

-- each place may come before each later one
unfoldable pub InOrder : List ℕ → List ℕ → Type 0
InOrder rows [] = Unit {0}
InOrder rows (i ∷ order) = ((j : ℕ) → Memᴰ j order → blocked rows i j ≡ false) × InOrder rows order

-- the positions are those of such an order of all places below n, then zeros
pub record Sorted (rows : List ℕ) (n : ℕ) (positions : List ℕ) : Type 0 where
  pub order : List ℕ
  pub each : Perm (places n) order
  pub stands : positions ≡ order ++ replicate (64 - n) 0
  pub sorted : InOrder rows order

-- some places below n, at least one, each of which may not come before some one of them
pub record Unsorted (rows : List ℕ) (n : ℕ) : Type 0 where
  pub pending : ℕ
  pub place : ℕ
  pub waits : bit pending place ≡ true
  pub inside : (i : ℕ) → bit pending i ≡ true → i < n
  pub kept : AllBlocked rows pending

-- what sorting answers: the positions of such an order, or none where such places are left
abbrev pub Sorts : List ℕ → ℕ → Option (List ℕ) → Type 0
Sorts rows n order = MatchOption order (Unsorted rows n) (Sorted rows n)
