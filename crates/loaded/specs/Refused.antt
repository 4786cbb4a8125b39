-- What a refused call returns beside its number, and the three parts of a run's contract by name.
use Rattle.std.specs.Prelude.{ℕ, ◌≡◌, List, Result, Ok, Err}
use Rattle.policy.specs.declared.Tables.{Tables}
use Rattle.policy.specs.declared.Ran.{Ran}
use Rattle.policy.specs.declared.Standing.{Standing}
use Rattle.policy.specs.declared.answer.Refusal.{Refusal}
use Rattle.policy.specs.Refusals.{refusal_number}
use Rattle.policy.specs.Calls.{State, ran, run_state, run_answers}
use Rattle.putting.specs.declared.Counts.{Counts}

unfoldable pub no_standing : ℕ → Standing
no_standing number = record { number = number; level = record { 0 = 0 }; rights = 0; firms = 0 }

unfoldable pub no_run : ℕ → Ran
no_run number = record { number = number; granted = 0; refused = 0 }

-- what a run returns, by its counts or what refuses it
abbrev pub ran_of : Result Counts Refusal → Ran
ran_of (Ok counts) = record { number = 0; granted = counts.granted; refused = counts.refused }
ran_of (Err refusal) = no_run (refusal_number refusal)

-- and standing, by the standing or what refuses it
abbrev pub standing_of : Result Standing Refusal → Standing
standing_of (Ok standing) = standing
standing_of (Err refusal) = no_standing (refusal_number refusal)

-- what a run returns, and the history, the levels and the answer bytes afterwards, are those of the definitions
pub record RunIs (t : Tables) (a : State) (requests lent : List ℕ) (r : Ran) (left : State) (written : List ℕ) : Type 0 where
  pub returned : r ≡ ran t a requests lent
  pub after : left ≡ run_state t a requests lent
  pub answers : written ≡ run_answers t a requests lent
