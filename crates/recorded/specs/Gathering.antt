-- What all persons did, gathered at once: for each folder the set of the persons who stepped on it; and the steps that one person applied.
use Rattle.std.specs.Prelude.{ℕ, ◌<◌, ◌≡◌, Bool, ◌&&◌, List, length, get_or}
use Rattle.std.specs.Int.Bits.{bit_or}
use Rattle.bits.specs.Bits.{mask_below}
use Rattle.bits.specs.Bounded.{any_below}
use Rattle.policy.specs.declared.Folder.{Folder}
use Rattle.policy.specs.declared.Tables.{Tables}
use Rattle.policy.specs.Tables.{folder_at}
use Rattle.recorded.specs.Recorded.{step_at, stepped_at}

-- a list of a length, whose first n numbers are those that f gives
pub record FirstAre (width n : ℕ) (f : ℕ → ℕ) (all : List ℕ) : Type 0 where
  pub size : length all ≡ width
  pub each : (k : ℕ) → k < n → get_or all k 0 ≡ f k

-- for each folder the persons who stepped on it
abbrev pub SteppersOf : List ℕ → List ℕ → Type 0
SteppersOf h all = FirstAre 128 128 (λ o. mask_below 64 (λ s. stepped_at h s o)) all

-- person s applied step p to folder o, whose entry is e and which is declared
unfoldable pub applied_on : Folder → List ℕ → ℕ → ℕ → ℕ → Bool
applied_on e h s o p = e.declared && step_at h s o p

-- person s applied step p to some declared folder
unfoldable pub applied_at : Tables → List ℕ → ℕ → ℕ → Bool
applied_at t h s p = any_below 128 (λ o. applied_on (folder_at t o) h s o p)

-- the steps that person s applied to declared folders below n
unfoldable pub applied_below : Tables → List ℕ → ℕ → ℕ → ℕ
applied_below t h s n = mask_below 16 (λ p. any_below n (λ o. applied_on (folder_at t o) h s o p))

-- the steps after folder o, if `before` are those before it
unfoldable pub applied_after : Tables → List ℕ → ℕ → ℕ → ℕ → ℕ
applied_after t h s o before = bit_or before (mask_below 16 (applied_on (folder_at t o) h s o))
