-- What a walk over the rights that a person used finds, if it stops once no role holds all of it and a new right.
use Rattle.std.specs.Prelude.{ℕ, ◌≡◌, ◌⊎◌, true, false, List}
use Rattle.bits.specs.Bits.{bit, with_bit}
use Rattle.rules.specs.Sets.{roles_in}

-- the members of a are members of b
pub record Within (a b : ℕ) : Type 0 where
  pub member : (k : ℕ) → bit a k ≡ true → bit b k ≡ true

-- rights out of the whole were found: the whole, or so many that no role holds them and right x
pub record FoundOf (roles : List ℕ) (x whole found : ℕ) : Type 0 where
  pub within : Within found whole
  pub enough : (found ≡ whole) ⊎ (roles_in roles (with_bit found x) ≡ false)
