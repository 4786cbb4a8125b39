-- What the parts of planning answer: whether a job can be planned, by the entries of its parties, a refused plan, and an order of the jobs
-- by the rules on pairs.
use Rattle.std.specs.Prelude.{ℕ, ◌-◌, ◌≡◌, Bool, ◌&&◌, ◌||◌, eqb, ltb, leb, length, replicate, Option, MatchOption, Result, Ok, Err}
use mathlib.Core.List.{List, ◌++◌, Perm}
use Rattle.policy.specs.declared.Person.{Person}
use Rattle.policy.specs.declared.Folder.{Folder}
use Rattle.policy.specs.declared.Tables.{Tables}
use Rattle.policy.specs.declared.Job.{Job}
use Rattle.policy.specs.declared.Plan.{Plan}
use Rattle.policy.specs.declared.answer.Refusal.{Refusal}
use Rattle.policy.specs.Refusals.{refusal_number}
use Rattle.policy.specs.Plans.{jobs_at, places}
use Rattle.precedence.specs.Precedence.{Ordered, Stuck}

-- a read, a write, or a step of at most 15
unfoldable pub planned_action : ℕ → ℕ → Bool
planned_action action step = (eqb action 16 || eqb action 17) || (eqb action 19 && leb step 15)

unfoldable pub plannable_by : ℕ → ℕ → ℕ → ℕ → Person → Folder → Bool
plannable_by action s o step person folder =
    ((ltb s 64 && person.declared) && (ltb o 128 && folder.declared)) && planned_action action step

unfoldable pub no_plan : ℕ → Plan
no_plan number = record { number = number; positions = replicate 64 0 }

-- what planning answers, as a plan: the positions, or the number of what refuses
abbrev pub plan_of : Result (List ℕ) Refusal → Plan
plan_of (Ok positions) = record { number = 0; positions = positions }
plan_of (Err refusal) = no_plan (refusal_number refusal)

-- the positions are those of an order in which each job may come before each later one, then zeros
pub record OrderedBy (t : Tables) (jobs : List Job) (positions : List ℕ) : Type 0 where
  pub order : List ℕ
  pub each : Perm (places (length jobs)) order
  pub stands : positions ≡ order ++ replicate (64 - length jobs) 0
  pub ordered : Ordered t (jobs_at jobs order)

-- such an order, or none where jobs keep each other back
abbrev pub OrderOf : Tables → List Job → Option (List ℕ) → Type 0
OrderOf t jobs order = MatchOption order (Stuck t jobs) (OrderedBy t jobs)
