-- Filling a part of the array: the n numbers from a place on have what they are to have, and those before the place are as they were.
use Rattle.std.specs.Prelude.{ℕ, ◌+◌, ◌<◌, ◌≡◌, List, length, get_or}

pub record Filled (at n : ℕ) (P : ℕ → ℕ → Type 0) (before after : List ℕ) : Type 0 where
  pub size : length after ≡ length before
  pub here : (k : ℕ) → k < n → P k (get_or after (at + k) 0)
  pub kept : (j : ℕ) → j < at → get_or after j 0 ≡ get_or before j 0
