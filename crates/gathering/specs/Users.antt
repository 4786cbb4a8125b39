-- Sets of persons by number: the openers of firms and the users of rights; and rows of roles, which hold all the rights that a person used.
use Rattle.std.specs.Prelude.{ℕ, ◌≤◌, ◌<◌, ◌≡◌, Bool, not, ◌&&◌, ◌||◌, List, eqb, length, get_or}
use Rattle.std.specs.Int.Bits.{bit_or}
use Rattle.bits.specs.Bits.{bit}
use Rattle.bits.specs.Bounded.{any_below}
use Rattle.policy.specs.declared.Tables.{Tables}
use Rattle.policy.specs.Tables.{role_at}
use Rattle.recorded.specs.Recorded.{started}
use Rattle.grouping.specs.Adding.{recorded_in, applied_in}

-- set x has those of the 64 persons of whom P x holds
pub record PersonSets (P : ℕ → ℕ → Bool) (sets : List ℕ) : Type 0 where
  pub size : length sets ≡ 81
  pub at : (x s : ℕ) → s < 64 → bit (get_or sets x 0) s ≡ P x s

-- person s used right x, where the folders have these kinds: by a start of one of these persons, a step, a write or a read
unfoldable pub used_in : List ℕ → List ℕ → ℕ → ℕ → ℕ → Bool
used_in kinds h persons x s =
    eqb 32 x && started persons h s || (applied_in kinds h 128 x s || (recorded_in kinds 16 h 8192 x s || recorded_in kinds 0 h 0 x s))

-- person s is in one of the sets whose numbers are these
unfoldable pub among_sets : List ℕ → ℕ → ℕ → Bool
among_sets sets numbers s = any_below 64 (λ x. bit numbers x && bit (get_or sets x 0) s)

-- one set more, joined to those before it
unfoldable pub join_set : List ℕ → ℕ → ℕ → ℕ
join_set sets x joined = bit_or joined (get_or sets x 0)

-- person s used a right that is not among these
unfoldable pub beyond : List ℕ → ℕ → ℕ → Bool
beyond users rights s = any_below 64 (λ x. not (bit rights x) && bit (get_or users x 0) s)

-- 64 rows, of which the first n are as they are to be, and the others are empty
pub record Rows (n : ℕ) (P : ℕ → ℕ → Type 0) (rows : List ℕ) : Type 0 where
  pub size : length rows ≡ 64
  pub at : (k : ℕ) → k < n → P k (get_or rows k 0)
  pub none : (k : ℕ) → n ≤ k → get_or rows k 0 ≡ 0

-- the rights of the roles
abbrev pub RoleRows : Tables → ℕ → List ℕ → Type 0
RoleRows t n rows = Rows n (λ k v. v ≡ (role_at t k).rights) rows

-- the persons who used no right beyond these
abbrev pub Holds : List ℕ → ℕ → ℕ → Type 0
Holds users rights persons = (s : ℕ) → s < 64 → bit persons s ≡ not (beyond users rights s)

-- the persons who used no right beyond each role's
abbrev pub HolderRows : List ℕ → List ℕ → ℕ → List ℕ → Type 0
HolderRows users roles n rows = Rows n (λ k v. Holds users (get_or roles k 0) v) rows
