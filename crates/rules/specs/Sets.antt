-- The wall and the roles as the code computes them: over the set of firms that the wall counts for a person and the set of rights that the
-- person used, the sets of the firms of each class and the rights of the roles.
use Rattle.std.specs.Prelude.{ℕ, ◌%◌, ◌<◌, ◌≡◌, Bool, ◌||◌, List, eqb, length, get_or}
use Rattle.std.specs.Int.Bits.{bit_and}
use Rattle.bits.specs.Bits.{bit, mask_below}
use Rattle.bits.specs.Bounded.{any_below}
use Rattle.policy.specs.declared.Folder.{Folder}
use Rattle.policy.specs.declared.Tables.{Tables}
use Rattle.policy.specs.Tables.{firm_at, role_at}

-- the firms of a class
unfoldable pub firms_of : Tables → ℕ → ℕ
firms_of t class = mask_below 64 (λ f. eqb (firm_at t f).class class)

-- the numbers are the firms of the 32 classes
pub record HasClasses (t : Tables) (sets : List ℕ) : Type 0 where
  pub size : length sets ≡ 32
  pub at : (class : ℕ) → class < 32 → get_or sets class 0 ≡ firms_of t class

-- the numbers are the rights of the 32 roles
pub record HasRoles (t : Tables) (rights : List ℕ) : Type 0 where
  pub size : length rights ≡ 32
  pub at : (k : ℕ) → k < 32 → get_or rights k 0 ≡ (role_at t k).rights

-- a folder is public, or no firm of its class is among those counted, or its own is
unfoldable pub wall_in : Folder → ℕ → ℕ → Bool
wall_in e counted class = e.public || (eqb (bit_and counted class) 0 || bit counted (e.firm % 64))

-- rights hold all that are wanted
unfoldable pub covers : ℕ → ℕ → Bool
covers rights wanted = eqb (bit_and wanted rights) wanted

-- some role holds all that are wanted
unfoldable pub roles_in : List ℕ → ℕ → Bool
roles_in roles wanted = any_below 32 (λ k. covers (get_or roles k 0) wanted)
