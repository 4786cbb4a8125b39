-- Adding persons to sets that are kept by number: x is the number of a set, s that of a person.
use Rattle.std.specs.Prelude.{ℕ, ◌+◌, ◌*◌, ◌<◌, ◌≡◌, Bool, ◌&&◌, ◌||◌, List, eqb, ltb, length, get_or}
use Rattle.bits.specs.Bits.{bit}
use Rattle.bits.specs.Bounded.{any_below}
use Rattle.policy.specs.History.{bit_at}
use Rattle.recorded.specs.Recorded.{step_at, touched_at}

-- the sets have those of the 64 persons that they had, and those that were added
pub record Added (add : ℕ → ℕ → Bool) (before after : List ℕ) : Type 0 where
  pub size : length after ≡ length before
  pub bits : (x s : ℕ) → s < 64 → bit (get_or after x 0) s ≡ add x s || bit (get_or before x 0) s

-- one of the n words from the first on has person s, and its group, with what is above, is x
unfoldable pub grouped : List ℕ → ℕ → ℕ → List ℕ → ℕ → ℕ → ℕ → Bool
grouped groups first above words n x s = any_below n (λ i. eqb (above + get_or groups (first + i) 0) x && bit (get_or words i 0) s)

-- person s applied to folder o one of the steps below n, and x is the right of that step
unfoldable pub applied_to : List ℕ → ℕ → ℕ → ℕ → ℕ → Bool
applied_to h o n x s = any_below n (λ p. eqb (48 + p) x && step_at h s o p)

-- the same of one of the folders below n that have a group
unfoldable pub applied_in : List ℕ → List ℕ → ℕ → ℕ → ℕ → Bool
applied_in groups h n x s = any_below n (λ o. ltb (get_or groups o 0) 64 && applied_to h o 16 x s)

-- the history has, from a bit on, that of person s and some folder whose group, with what is above, is x: 128 bits for each person
unfoldable pub recorded_in : List ℕ → ℕ → List ℕ → ℕ → ℕ → ℕ → Bool
recorded_in groups above h first x s = any_below 128 (λ o. eqb (above + get_or groups o 0) x && bit_at h (first + 128 * s + o))

-- person s read some folder of group x, wrote in it or stepped on it
unfoldable pub touched_in : List ℕ → List ℕ → ℕ → ℕ → Bool
touched_in groups h x s = any_below 128 (λ o. eqb (get_or groups o 0) x && touched_at h s o)

-- no group is above 64
abbrev pub GroupsFit : List ℕ → Type 0
GroupsFit groups = (o : ℕ) → o < 128 → get_or groups o 0 < 65
