-- What a run keeps of what persons did and of what was done on folders: a set for each person or folder, which is what the set H of the
-- requests granted so far gives.
use Rattle.std.specs.Prelude.{ℕ, ◌≡◌, Bool, true, List, ltb, length, get_or}
use Rattle.bits.specs.Bits.{bit, mask_below}
use Rattle.policy.specs.declared.Tables.{Tables}
use Rattle.policy.specs.Tables.{role_at, person_declared, folder_declared, in_force, wall_rule, roles_rule, pipeline_rule}
use Rattle.policy.specs.Request.{Request}
use Rattle.policy.specs.Rules.{used, counted, done, pipeline_step}
use Rattle.rules.specs.Sets.{covers}

-- n numbers: if a rule is in force, the one at each known number j is the set of the members below a width of which P j holds
pub record SetsFor (n : ℕ) (on : Bool) (known : ℕ → Bool) (width : ℕ) (P : ℕ → ℕ → Bool) (sets : List ℕ) : Type 0 where
  pub size : length sets ≡ n
  pub at : on ≡ true → (j : ℕ) → known j ≡ true → get_or sets j 0 ≡ mask_below width (P j)

-- role k holds all the rights that person s used
unfoldable pub holds_all : Tables → (Request → Bool) → ℕ → ℕ → Bool
holds_all t H s k = covers (role_at t k).rights (mask_below 64 (used t H s))

-- role k holds right x
unfoldable pub holds_right : Tables → ℕ → ℕ → Bool
holds_right t x k = bit (role_at t k).rights x

-- step p may be done next on folder o
unfoldable pub may_be_next : Tables → (Request → Bool) → ℕ → ℕ → Bool
may_be_next t H o p = pipeline_step t H p o

-- for each declared person the firms that the wall counts
abbrev pub HasFirms : Tables → (Request → Bool) → List ℕ → Type 0
HasFirms t H = SetsFor 64 (in_force t wall_rule) (person_declared t) 64 (counted t H)

-- for each declared person the roles that hold all the rights used
abbrev pub HasHolding : Tables → (Request → Bool) → List ℕ → Type 0
HasHolding t H = SetsFor 64 (in_force t roles_rule) (person_declared t) 32 (holds_all t H)

-- for each right the roles that hold it
abbrev pub HasHolders : Tables → List ℕ → Type 0
HasHolders t = SetsFor 64 (in_force t roles_rule) (λ x. ltb x 64) 32 (holds_right t)

-- for each declared folder the steps done on it
abbrev pub HasDone : Tables → (Request → Bool) → List ℕ → Type 0
HasDone t H = SetsFor 128 (in_force t pipeline_rule) (folder_declared t) 16 (done t H)

-- for each declared folder the steps that may be done next
abbrev pub HasNext : Tables → (Request → Bool) → List ℕ → Type 0
HasNext t H = SetsFor 128 (in_force t pipeline_rule) (folder_declared t) 16 (may_be_next t H)
