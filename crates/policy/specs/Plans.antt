-- Planning (document 02, Point 6): an order of a list's jobs in which the monitor grants all of them. Which order is free, so a plan is
-- told by what holds of it.
use Rattle.std.specs.Prelude.{ℕ, zero, suc, ◌-◌, ◌≡◌, ◌⊎◌, ◌≢◌, Bool, true, false, cond, ◌&&◌, eqb, leb, length, get_or, replicate}
use mathlib.Core.List.{List, [], ◌∷◌, ◌++◌, Perm}
use Rattle.std.proofs.Math.Option.{Option, none, some}
use Rattle.policy.specs.declared.Tables.{Tables}
use Rattle.policy.specs.declared.Job.{Job}
use Rattle.policy.specs.declared.Plan.{Plan}
use Rattle.policy.specs.Checks.{◌else◌, ladder}
use Rattle.policy.specs.Request.{Request, read, write, start, step, request_of}
use Rattle.policy.specs.Rules.{declared}
use Rattle.policy.specs.Calls.{State, call_checks, put_states}
use Rattle.policy.specs.Given.{LoadGives}
use Rattle.policy.specs.Agreement.{FromBlank, Throughout}

-- no job: its action is no request's kind
abbrev pub no_job : Job
no_job = record { action = 0; person = 0; target = 0; step = 0 }

-- the jobs that bytes hold, four for each: action, person, target and step; a last one that is cut short is no job
unfoldable pub jobs_of : List ℕ → List Job
jobs_of [] = []
jobs_of (a ∷ []) = no_job ∷ []
jobs_of (a ∷ b ∷ []) = no_job ∷ []
jobs_of (a ∷ b ∷ c ∷ []) = no_job ∷ []
jobs_of (a ∷ b ∷ c ∷ d ∷ bytes) = record { action = a; person = b; target = c; step = d } ∷ jobs_of bytes

-- the record of a job's request; the step is passed over unless the action is 19
unfoldable pub job_record : Job → List ℕ
job_record j =
    cond (eqb j.action 19)
    (j.action ∷ j.person ∷ j.step ∷ j.target ∷ [])
    (j.action ∷ j.person ∷ j.target ∷ [])

-- the request is no start
unfoldable pub no_start : Request → Bool
no_start (read s o) = true
no_start (write s o) = true
no_start (start s u) = false
no_start (step s p o) = true

-- what a record holds can be planned: a request, which 12 would not refuse, that is no start and that 13 would not refuse
unfoldable pub plannable : Tables → Option Request → Bool
plannable t none = false
plannable t (some r) = no_start r && declared t r

unfoldable pub all_plannable : Tables → List Job → Bool
all_plannable t [] = true
all_plannable t (j ∷ jobs) = plannable t (request_of (job_record j)) && all_plannable t jobs

-- the number of plan's first check that refuses, before an order is looked for; 0 where none does
unfoldable pub plan_refusal : Tables → State → List Job → ℕ
plan_refusal t a jobs = ladder (call_checks t a ++ ((leb (length jobs) 64 && all_plannable t jobs) else 22) ∷ [])

-- the records of jobs, in their order
unfoldable pub records : List Job → List (List ℕ)
records [] = []
records (j ∷ jobs) = job_record j ∷ records jobs

-- the jobs at these places of a list, in this order
unfoldable pub jobs_at : List Job → List ℕ → List Job
jobs_at jobs [] = []
jobs_at jobs (i ∷ order) = get_or jobs i no_job ∷ jobs_at jobs order

-- n places, from i on
unfoldable pub places_from : ℕ → ℕ → List ℕ
places_from i zero = []
places_from i (suc n) = i ∷ places_from (suc i) n

-- the places of a list of n jobs, from 0
unfoldable pub places : ℕ → List ℕ
places n = places_from 0 n

-- the history and levels are those that some list put from blank leaves
abbrev pub LeftByList : Tables → State → Type 0
LeftByList t a = LoadGives t × ((b : State) × (calls : List (List ℕ)) × FromBlank t b × (a ≡ put_states t b calls))

-- some reordering of the jobs is granted throughout
abbrev pub HasOrder : Tables → State → List Job → Type 0
HasOrder t a jobs = (calls : List (List ℕ)) × Perm (records jobs) calls × Throughout t a calls

-- an order handed back: each place of the list once, then zeros, and putting the list so is granted throughout
pub record IsOrder (t : Tables) (a : State) (jobs : List Job) (positions : List ℕ) : Type 0 where
  pub order : List ℕ
  pub each : Perm (places (length jobs)) order
  pub then : positions ≡ order ++ replicate (64 - length jobs) 0
  pub granted : Throughout t a (records (jobs_at jobs order))

-- the answer of plan
pub record IsPlan (t : Tables) (a : State) (jobs : List Job) (r : Plan) : Type 0 where
  -- the number is that of the first check that refuses; where none does it is 0, or 23 for want of an order
  pub number : (r.number ≡ plan_refusal t a jobs) ⊎ ((plan_refusal t a jobs ≡ 0) × (r.number ≡ 23))
  -- with a refusal all 64 positions are zero
  pub zeros : r.number ≢ 0 → r.positions ≡ replicate 64 0
  pub order : r.number ≡ 0 → IsOrder t a jobs r.positions
  -- after a list from blank, 23 comes only if every reordering has a refusal
  pub complete : r.number ≡ 23 → LeftByList t a → HasOrder t a jobs → ⊥
  -- an empty list has an order
  pub none : jobs ≡ [] → r.number ≢ 23
