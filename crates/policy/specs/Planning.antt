-- Document 02, Point 6, as claims about what plan returns. What an answer of plan is, is told in Plans (`IsPlan`); here its number is told
-- by its causes, its positions one by one, and the request of a job by its four bytes. What is said here is written from the paper.
use Rattle.std.specs.Prelude.{ℕ, ◌-◌, ◌≤◌, ◌<◌, ◌≡◌, ◌⊎◌, ◌↔◌, ◌≢◌, length, get_or, replicate}
use mathlib.Core.List.{List, [], ◌∷◌, ◌++◌, Memᴰ, Perm}
use Rattle.policy.specs.declared.Tables.{Tables}
use Rattle.policy.specs.declared.Job.{Job}
use Rattle.policy.specs.declared.Plan.{Plan}
use Rattle.policy.specs.Request.{Request, read, write, start, step}
use Rattle.policy.specs.Calls.{State, blank_number, put_states}
use Rattle.policy.specs.Given.{OfType, LoadGives}
use Rattle.policy.specs.Causes.{Cause, ◌when◌, Answer, record_bytes, PartiesDeclared, call_causes}
use Rattle.policy.specs.Agreement.{FromBlank, Throughout}
use Rattle.policy.specs.Plans.{
  no_job,
  jobs_of,
  job_record,
  plan_refusal,
  records,
  jobs_at,
  places,
  LeftByList,
  HasOrder,
  IsPlan,
}

-- the job asks for this request: the action is its kind number, the target its folder, and the step is passed over unless the action is 19
abbrev pub AsksFor : Job → Request → Type 0
AsksFor j (read s o) = (j.action ≡ 16) × (j.person ≡ s) × (j.target ≡ o)
AsksFor j (write s o) = (j.action ≡ 17) × (j.person ≡ s) × (j.target ≡ o)
AsksFor j (start s u) = (j.action ≡ 18) × (j.person ≡ s) × (j.target ≡ u)
AsksFor j (step s p o) = (j.action ≡ 19) × (j.person ≡ s) × (j.step ≡ p) × (j.target ≡ o)

-- the bytes of jobs, four for each
abbrev pub job_bytes : List Job → List ℕ
job_bytes [] = []
job_bytes (j ∷ jobs) = j.action ∷ j.person ∷ j.target ∷ j.step ∷ job_bytes jobs

-- a job that is not planned: a start, or a record that 12 would refuse, or one that 13 would refuse
abbrev pub NotPlanned : Tables → Job → Type 0
NotPlanned t j =
    (j.action ≡ 18) ⊎ (((r : Request) → AsksFor j r → ⊥) ⊎ ((r : Request) × AsksFor j r × (PartiesDeclared t r → ⊥)))

-- the rows of plan, before an order is looked for
abbrev pub plan_causes : Tables → State → List Job → List Cause
plan_causes t a jobs =
    call_causes t a
    ++ (22 when ((64 < length jobs) ⊎ ((j : Job) × Memᴰ j jobs × NotPlanned t j)))
    ∷ []

-- 64 positions: each place of a list of n jobs, from 0, stands once among the first n, and the others are zero
pub record EachOnce (n : ℕ) (positions : List ℕ) : Type 0 where
  pub size : length positions ≡ 64
  pub below : (k : ℕ) → k < n → get_or positions k 0 < n
  pub each : (i : ℕ) → i < n → (k : ℕ) × (k < n) × (get_or positions k 0 ≡ i)
  pub once : (k l : ℕ) → k < n → l < n → get_or positions k 0 ≡ get_or positions l 0 → k ≡ l
  pub rest : (k : ℕ) → n ≤ k → get_or positions k 0 ≡ 0

-- the calls are the records of the jobs in the order of the positions: call k has the job whose place is position k
pub record PutSo (jobs : List Job) (positions : List ℕ) (calls : List (List ℕ)) : Type 0 where
  pub size : length calls ≡ length jobs
  pub at : (k : ℕ) → k < length jobs → get_or calls k [] ≡ job_record (get_or jobs (get_or positions k 0) no_job)

-- if the history and levels are those that some list put from blank leaves, every reordering has a refusal
abbrev pub EachRefused : Tables → State → List Job → Type 0
EachRefused t a jobs =
    (b : State) (before calls : List (List ℕ)) → LoadGives t → FromBlank t b → a ≡ put_states t b before
    → Perm (records jobs) calls → Throughout t a calls → ⊥

pub record Planning : Type 0 where
  -- the record that is put for a job is that of the request that the job asks for
  pub asks : (j : Job) (r : Request) → AsksFor j r → job_record j ≡ record_bytes r
  -- bytes hold the jobs whose bytes they are; after them a job that is cut short asks for no request
  pub bytes : (jobs : List Job) → jobs_of (job_bytes jobs) ≡ jobs
  pub cut :
      (jobs : List Job) (b : ℕ) (rest : List ℕ) → length rest < 3
      → (j : Job) × (jobs_of (job_bytes jobs ++ b ∷ rest) ≡ jobs ++ j ∷ []) × ((r : Request) → AsksFor j r → ⊥)
  -- the records of a list are those of its jobs, one for each, in their order
  pub listed : (jobs : List Job) → PutSo jobs (places (length jobs)) (records jobs)
  -- every number of plan is a published one
  pub numbers :
      (t : Tables) (a : State) (jobs : List Job) (r : Plan) → IsPlan t a jobs r
      → Memᴰ r.number (0 ∷ 10 ∷ 20 ∷ 11 ∷ 22 ∷ 23 ∷ [])
  -- a number other than 0 and 23 is that of the first cause, and where there is such a cause no order is looked for
  pub causes : (t : Tables) (a : State) (jobs : List Job) (n : ℕ) → OfType t → (plan_refusal t a jobs ≡ n) ↔ Answer (plan_causes t a jobs) n
  pub refused :
      (t : Tables) (a : State) (jobs : List Job) (r : Plan) → IsPlan t a jobs r → plan_refusal t a jobs ≢ 0
      → r.number ≡ plan_refusal t a jobs
  pub looked :
      (t : Tables) (a : State) (jobs : List Job) (r : Plan) → IsPlan t a jobs r → plan_refusal t a jobs ≡ 0
      → (r.number ≡ 0) ⊎ (r.number ≡ 23)
  -- what blank is refused with, plan is refused with
  pub beginning : (t : Tables) (a : State) (jobs : List Job) → blank_number t a ≢ 0 → plan_refusal t a jobs ≡ blank_number t a
  -- and a list of no jobs is refused with nothing else
  pub empty : (t : Tables) (a : State) (r : Plan) → IsPlan t a [] r → r.number ≡ blank_number t a
  -- with 0 each place stands once, and then zeros
  pub positions :
      (t : Tables) (a : State) (jobs : List Job) (r : Plan) → IsPlan t a jobs r → r.number ≡ 0 → EachOnce (length jobs) r.positions
  -- and putting the list so is granted throughout
  pub granted :
      (t : Tables) (a : State) (jobs : List Job) (r : Plan) → IsPlan t a jobs r → r.number ≡ 0
      → (calls : List (List ℕ)) → PutSo jobs r.positions calls → Throughout t a calls
  -- with a refusal all 64 positions are zero
  pub zeros :
      (t : Tables) (a : State) (jobs : List Job) (r : Plan) → IsPlan t a jobs r → r.number ≢ 0
      → (length r.positions ≡ 64) × ((k : ℕ) → get_or r.positions k 0 ≡ 0)
  -- after a list from blank, jobs that no check refuses are planned exactly where some reordering of them is granted throughout
  pub decides :
      (t : Tables) (a : State) (jobs : List Job) (r : Plan) → IsPlan t a jobs r → LeftByList t a → plan_refusal t a jobs ≡ 0
      → (r.number ≡ 0) ↔ HasOrder t a jobs
  -- and everywhere, a list that has no such reordering is not planned
  pub never : (t : Tables) (a : State) (jobs : List Job) (r : Plan) → IsPlan t a jobs r → (HasOrder t a jobs → ⊥) → r.number ≢ 0
  -- turned down for want of an order only if every reordering has a refusal, and what is free: 23 wherever that is so, and which order
  pub wanting : (t : Tables) (a : State) (jobs : List Job) (r : Plan) → IsPlan t a jobs r → r.number ≡ 23 → EachRefused t a jobs
  pub free :
      (t : Tables) (a : State) (jobs : List Job) → plan_refusal t a jobs ≡ 0 → jobs ≢ [] → EachRefused t a jobs
      → IsPlan t a jobs (record { number = 23; positions = replicate 64 0 })
  pub chosen :
      (t : Tables) (a : State) (jobs : List Job) (order : List ℕ) → plan_refusal t a jobs ≡ 0 → Perm (places (length jobs)) order
      → Throughout t a (records (jobs_at jobs order))
      → IsPlan t a jobs (record { number = 0; positions = order ++ replicate (64 - length jobs) 0 })
