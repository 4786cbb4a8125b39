-- A run over counts, so far and whole.
use Rattle.std.specs.Prelude.{ℕ, ◌≡◌, List, length, drop}
use Rattle.policy.specs.declared.Tables.{Tables}
use Rattle.policy.specs.History.{zeros}
use Rattle.policy.specs.Calls.{State, put_states, calls_of, answers_due, granted_in, refused_in}
use Rattle.putting.specs.Running.{run_numbers, Begun}
use Rattle.counts.specs.Counting.{with_requests}

-- the counts with one more for each request read in a run of the bytes
abbrev pub counts_of : Tables → State → List ℕ → List ℕ → List ℕ
counts_of t a requests counts = with_requests t (calls_of requests) (run_numbers t a requests) counts

-- no answer is written; a run so far is told as that of a run which has just the bytes that its answers need
abbrev pub room : List ℕ → List ℕ
room requests = zeros (answers_due requests)

-- the counts so far, on which the rest of the requests gives what all of them give on those before
pub record SoFar (t : Tables) (a₀ : State) (requests counts₀ : List ℕ) (at : ℕ) (a : State) (counts : List ℕ) : Type 0 where
  pub rest : counts_of t a₀ requests counts₀ ≡ counts_of t a (drop at requests) counts
  pub size : length counts ≡ 2080

-- a run over counts so far
pub record Counted (t : Tables) (a₀ : State) (requests counts₀ : List ℕ) (at i granted : ℕ) (a : State) (counts : List ℕ) : Type 0 where
  pub answers : List ℕ
  pub begun : Begun t a₀ requests (room requests) at i granted a answers
  pub counted : SoFar t a₀ requests counts₀ at a counts

-- a whole run over counts: what it returns, and the history, the levels and the counts after it
pub record CountedAll (t : Tables) (before : State) (requests counts : List ℕ) (zeros others : ℕ) (after : State) (left : List ℕ) : Type 0
  where
    pub granted : zeros ≡ granted_in (run_numbers t before requests)
    pub refused : others ≡ refused_in (run_numbers t before requests)
    pub states : after ≡ put_states t before (calls_of requests)
    pub counted : left ≡ counts_of t before requests counts
