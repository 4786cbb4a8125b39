-- The records of jobs in an order, written one after another, and a run of them.
use Rattle.std.specs.Prelude.{ℕ, ◌+◌, ◌≤◌, ◌<◌, ◌≡◌, ◌↔◌, Bool, true, List, [], ◌∷◌, ◌++◌, length, get_or, take}
use Rattle.policy.specs.declared.Tables.{Tables}
use Rattle.policy.specs.declared.Job.{Job}
use Rattle.policy.specs.Calls.{State, calls_of}
use Rattle.policy.specs.Agreement.{Throughout}
use Rattle.policy.specs.Plans.{jobs_of, records, jobs_at}

-- records one after another, as request bytes
unfoldable pub joined : List (List ℕ) → List ℕ
joined [] = []
joined (r ∷ rs) = r ++ joined rs

-- bytes were written after the first `at` ones; these end at `end`
pub record Appended (bytes : List ℕ) (at : ℕ) (before : List ℕ) (end : ℕ) (after : List ℕ) : Type 0 where
  pub size : length after ≡ length before
  pub ends : end ≡ at + length bytes
  pub front : take end after ≡ take at before ++ bytes

-- the first n positions are places below n
pub record PlacesBelow (n : ℕ) (positions : List ℕ) : Type 0 where
  pub size : n ≤ length positions
  pub each : (k : ℕ) → k < n → get_or positions k 0 < n

-- the records of the jobs at the first n positions
abbrev pub requests_by : List ℕ → List ℕ → ℕ → List ℕ
requests_by bytes positions n = joined (records (jobs_at (jobs_of bytes) (take n positions)))

pub record WrittenBy (bytes positions : List ℕ) (n room end : ℕ) (out : List ℕ) : Type 0 where
  pub size : length out ≡ room
  pub within : end < 257
  pub front : take end out ≡ requests_by bytes positions n

-- a run of the requests grants all of them
abbrev pub GrantedIn : Tables → State → List ℕ → Bool → Type 0
GrantedIn t a requests r = (r ≡ true) ↔ Throughout t a (calls_of requests)

-- putting the jobs at the first n positions is granted throughout
abbrev pub GrantedBy : Tables → State → List Job → List ℕ → ℕ → Bool → Type 0
GrantedBy t a jobs positions n r = (r ≡ true) ↔ Throughout t a (records (jobs_at jobs (take n positions)))
