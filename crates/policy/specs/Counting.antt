-- "The number of": the length of a list without repeats that has exactly the numbers that are meant.
use Rattle.std.specs.Prelude.{ℕ, ◌≡◌, ◌↔◌, length}
use mathlib.Core.List.{List, [], ◌∷◌, Memᴰ}

-- no number stands in the list twice
abbrev pub NoRepeats : List ℕ → Type 0
NoRepeats [] = Unit {0}
NoRepeats (k ∷ l) = (Memᴰ k l → ⊥) × NoRepeats l

-- n is the number of the numbers of which P holds
abbrev pub NumberOf : (ℕ → Type 0) → ℕ → Type 0
NumberOf P n = (l : List ℕ) × NoRepeats l × ((k : ℕ) → Memᴰ k l ↔ P k) × (n ≡ length l)
