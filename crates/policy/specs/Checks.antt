-- An ordered list of checks. A check that permits leads to the next one; the first that does not gives its number.
use Rattle.std.specs.Prelude.{ℕ, Bool, cond, List, [], ◌∷◌}

pub record Check : Type 0 where
  pub permits : Bool
  pub number : ℕ

-- this must hold, else the number
infix 18 ◌else◌
abbrev pub ◌else◌ : Bool → ℕ → Check
b else n = record { permits = b; number = n }

-- the number of the first check that does not permit; 0 where each permits
unfoldable pub ladder : List Check → ℕ
ladder [] = 0
ladder (c ∷ cs) = let next = ladder cs in cond c.permits next c.number
