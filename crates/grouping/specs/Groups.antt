-- The group of each folder: a number below 64, or 64 for a folder that counts in no group.
use Rattle.std.specs.Prelude.{ℕ, ◌<◌, ◌≡◌, Bool, cond, not, ◌&&◌, List, get_or}
use Rattle.policy.specs.declared.Tables.{Tables}
use Rattle.policy.specs.Tables.{folder_at}
use Rattle.grouping.specs.Adding.{GroupsFit}

-- a number as a group, if it counts
unfoldable pub group_of : Bool → ℕ → ℕ
group_of counts number = cond counts number 64

-- the firm of a declared folder that is not public
unfoldable pub firm_group : Tables → ℕ → ℕ
firm_group t o = group_of ((folder_at t o).declared && not (folder_at t o).public) (folder_at t o).firm

-- the kind of a declared folder
unfoldable pub kind_group : Tables → ℕ → ℕ
kind_group t o = group_of (folder_at t o).declared (folder_at t o).kind

-- the groups are those that f gives, and none is above 64
pub record Grouped (f : ℕ → ℕ) (groups : List ℕ) : Type 0 where
  pub each : (o : ℕ) → o < 128 → get_or groups o 0 ≡ f o
  pub fit : GroupsFit groups
