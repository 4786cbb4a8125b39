-- One turn of a run, a run so far, and a whole run.
use Rattle.std.specs.Prelude.{ℕ, zero, suc, ◌+◌, ◌%◌, ◌≤◌, ◌≡◌, List, ◌++◌, true, eqb, length, drop}
use Rattle.std.proofs.Math.Option.{some}
use Rattle.policy.specs.declared.Tables.{Tables}
use Rattle.policy.specs.Tables.{folder_at}
use Rattle.policy.specs.Request.{Request, has_place, set_of, recorded}
use Rattle.level.specs.Levels.{meet_of}
use Rattle.policy.specs.Levels.{level_at, with_level_at, lowered}
use Rattle.policy.specs.Calls.{
  State,
  state,
  recorded_if,
  judge_number,
  put_state,
  put_numbers,
  put_states,
  calls_of,
  answers_due,
  granted_in,
  refused_in,
}
use Rattle.questions.specs.Judging.{Ready, number_for}
use Rattle.request.specs.declared.Parsed.{Parsed}
use Rattle.request.specs.Parsed.{as_request, next_record, whole_length}

-- the entry of person s is met with a level
unfoldable pub lowered_to : List ℕ → ℕ → ℕ → List ℕ
lowered_to l s level = with_level_at l s (meet_of 12 (level_at l s) level)

-- the numbers of a request are in range
abbrev pub Fits : Parsed → Type 0
Fits r = (q : Request) → as_request r ≡ some q → has_place q ≡ true

-- the history and the levels after a request, or none, was recorded, for all tables that give its folder this level; the folder's number is
-- taken modulo 128, as where its entry is read
pub record Recorded (h l : List ℕ) (r : Parsed) (level : ℕ) (h' l' : List ℕ) : Type 0 where
  pub one : (t : Tables) (q : Request) → as_request r ≡ some q → level ≡ (folder_at t (r.target % 128)).level.0
      → (h' ≡ recorded h q) × (l' ≡ lowered t l q)

-- the history and the levels after a request that has this number, for all tables that give it the number and its folder this level: it is
-- recorded if it is granted
pub record RecordedBy (number : ℕ) (h l : List ℕ) (r : Parsed) (level : ℕ) (h' l' : List ℕ) : Type 0 where
  pub left : (t : Tables) → number ≡ number_for t (set_of h) (level_at l) (as_request r) → level ≡ (folder_at t (r.target % 128)).level.0
      → state h' l' ≡ recorded_if t (eqb number 0) (state h l) (as_request r)

-- one put of a run: its number, how far on the next record stands, and the history and the levels after it
pub record Turned (t : Tables) (before : State) (bytes : List ℕ) (number next : ℕ) (after : State) : Type 0 where
  pub judged_as : number ≡ judge_number t before bytes
  pub onward : next ≡ next_record bytes
  pub left : after ≡ put_state t before bytes

-- the numbers of a run
abbrev pub run_numbers : Tables → State → List ℕ → List ℕ
run_numbers t a requests = put_numbers t a (calls_of requests)

-- a whole run: its counts, and the history, the levels and the answers after it
pub record Finished (t : Tables) (before : State) (requests room : List ℕ) (zeros others : ℕ) (after : State) (written : List ℕ) : Type 0
  where
    pub granted : zeros ≡ granted_in (run_numbers t before requests)
    pub refused : others ≡ refused_in (run_numbers t before requests)
    pub left : after ≡ put_states t before (calls_of requests)
    pub answers : written ≡ run_numbers t before requests ++ drop (answers_due requests) room

-- ---- how far the whole records reach

-- where so many turns come to from a place on: each passes the record that stands there, and stays where that is unknown or cut
unfoldable pub end_from : ℕ → List ℕ → ℕ → ℕ
end_from zero requests at = at
end_from (suc n) requests at = end_from n requests (at + whole_length (drop at requests))

-- where the whole records end; turns as many as there are bytes pass all of them
unfoldable pub whole_end : List ℕ → ℕ
whole_end requests = end_from (length requests) requests 0

-- ---- a run so far

-- the history, the levels and the answers after i puts, of which some are granted, with the requests from a place on left
pub record Done (t : Tables) (a₀ : State) (requests answers₀ : List ℕ) (at i granted : ℕ) (a : State) (answers : List ℕ) : Type 0 where
  pub written : List ℕ
  pub states : put_states t a₀ (calls_of requests) ≡ put_states t a (calls_of (drop at requests))
  pub numbers : run_numbers t a₀ requests ≡ written ++ run_numbers t a (drop at requests)
  pub many : length written ≡ i
  pub zeros : granted ≡ granted_in written
  pub bytes : answers ≡ written ++ drop i answers₀
  pub ready : Ready t a.history a.levels

-- so far a run has come that there is room for the answers to the rest
pub record Room (requests : List ℕ) (room at i granted : ℕ) : Type 0 where
  pub within : at ≤ length requests
  pub further : i ≤ at
  pub grants : granted ≤ i
  pub enough : i + answers_due (drop at requests) ≤ room

-- the same, within bounds
pub record Begun (t : Tables) (a₀ : State) (requests answers₀ : List ℕ) (at i granted : ℕ) (a : State) (answers : List ℕ) : Type 0 where
  pub done : Done t a₀ requests answers₀ at i granted a answers
  pub within : at ≤ length requests
  pub further : i ≤ at
  pub same : length answers ≡ length answers₀
