-- A run that keeps, so far.
use Rattle.std.specs.Prelude.{ℕ, List}
use Rattle.policy.specs.declared.Tables.{Tables}
use Rattle.policy.specs.Request.{set_of}
use Rattle.policy.specs.Calls.{State, state}
use Rattle.keeping.specs.declared.Kept.{Kept as Keeping}
use Rattle.keeping.specs.Keeping.{Keeps}
use Rattle.putting.specs.Running.{Begun}

-- a run so far, of one that keeps: the levels so far are those of the sets that it keeps, and no buffer holds them yet
pub record Kept (t : Tables) (a₀ : State) (requests answers₀ : List ℕ) (at i granted : ℕ) (h answers : List ℕ) (k : Keeping) : Type 0 where
  pub levels : List ℕ
  pub begun : Begun t a₀ requests answers₀ at i granted (state h levels) answers
  pub keeps : Keeps t (set_of h) levels k
