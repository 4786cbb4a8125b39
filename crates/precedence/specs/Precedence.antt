-- Which of two jobs may come before the other (document 02, Point 6): a test on the two alone, without a history. Wall and roles ask only
-- that the whole set of requests is permitted, whatever the order; low-water and the pipeline ask for an order, and are rules on pairs.
use Rattle.std.specs.Prelude.{ℕ, ◌<◌, ◌≡◌, Bool, true, false, not, ◌&&◌, ◌||◌, eqb, length, get_or}
use mathlib.Core.List.{List, [], ◌∷◌, Memᴰ, Perm}
use Rattle.bits.specs.Bounded.{◌implies◌}
use Rattle.level.specs.Levels.{at_most}
use Rattle.policy.specs.declared.Tables.{Tables}
use Rattle.policy.specs.declared.Job.{Job}
use Rattle.policy.specs.Tables.{folder_at, enables, in_force, low_water_rule, pipeline_rule}
use Rattle.policy.specs.Calls.{State}
use Rattle.policy.specs.Agreement.{Throughout}
use Rattle.policy.specs.Plans.{no_job, all_plannable, records, LeftByList, HasOrder}

-- a job of this action lowers its person's level: a read or a step
unfoldable pub lowers_level : ℕ → Bool
lowers_level action = eqb action 16 || eqb action 19

-- low-water asks for the level of its person: a write or a step
unfoldable pub needs_level : ℕ → Bool
needs_level action = eqb action 17 || eqb action 19

unfoldable pub is_step : ℕ → Bool
is_step action = eqb action 19

-- the level of a job's folder
unfoldable pub job_level : Tables → Job → ℕ
job_level t j = (folder_at t j.target).level.0

-- low-water: where x lowers the level of a person of whom y needs one, the level of y is at most that of x
unfoldable pub levels_permit : Tables → Job → Job → Bool
levels_permit t x y =
    (in_force t low_water_rule && (lowers_level x.action && (needs_level y.action && eqb x.person y.person)))
    implies at_most 12 (job_level t y) (job_level t x)

-- the pipeline: where both are steps on one folder, y does not directly enable x
unfoldable pub steps_permit : Tables → Job → Job → Bool
steps_permit t x y =
    (in_force t pipeline_rule && (is_step x.action && (is_step y.action && eqb x.target y.target)))
    implies not (enables t y.step x.step)

-- x may come before y, by every rule on pairs
unfoldable pub may_precede : Tables → Job → Job → Bool
may_precede t x y = levels_permit t x y && steps_permit t x y

-- each job may come before each later one
unfoldable pub Ordered : Tables → List Job → Type 0
Ordered t [] = Unit {0}
Ordered t (x ∷ jobs) = ((y : Job) → Memᴰ y jobs → may_precede t x y ≡ true) × Ordered t jobs

-- some jobs of the list, at least one, each of which may not come before some one of them
pub record Stuck (t : Tables) (jobs : List Job) : Type 0 where
  pub pending : ℕ → Bool
  pub place : ℕ
  pub waits : pending place ≡ true
  pub inside : (i : ℕ) → pending i ≡ true → i < length jobs
  pub kept :
      (i : ℕ) → pending i ≡ true
      → (j : ℕ) × (pending j ≡ true) × (may_precede t (get_or jobs i no_job) (get_or jobs j no_job) ≡ false)

-- after a list from blank the test decides: an order of the jobs in which each may come before each later one is granted throughout if any
-- order is, and jobs that keep each other back stand in no order that is
pub record Precedence : Type 0 where
  pub ordered :
      (t : Tables) (a : State) (jobs order : List Job) → LeftByList t a → all_plannable t jobs ≡ true → Perm jobs order
      → Ordered t order → HasOrder t a jobs → Throughout t a (records order)
  pub stuck :
      (t : Tables) (a : State) (jobs : List Job) → LeftByList t a → all_plannable t jobs ≡ true → Stuck t jobs → HasOrder t a jobs → ⊥
