-- The three parts of a tally's contract by name.
use Rattle.std.specs.Prelude.{ℕ, ◌≡◌, List}
use Rattle.policy.specs.declared.Tables.{Tables}
use Rattle.policy.specs.declared.Ran.{Ran}
use Rattle.policy.specs.Calls.{State}
use Rattle.policy.specs.Tallies.{tallied, tally_state, tally_counts}

-- what a tally returns, and the history, the levels and the counts afterwards, are those of the definitions
pub record TallyIs (t : Tables) (a : State) (requests before : List ℕ) (r : Ran) (left : State) (after : List ℕ) : Type 0 where
  pub returned : r ≡ tallied t a requests before
  pub state : left ≡ tally_state t a requests before
  pub counts : after ≡ tally_counts t a requests before
