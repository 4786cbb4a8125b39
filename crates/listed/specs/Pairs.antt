-- The rules on pairs of jobs, over what is looked up about each job once. Law `pair_same` of `planning` says that this is `may_precede`.
use Rattle.std.specs.Prelude.{ℕ, ◌%◌, ◌<◌, ◌≡◌, Bool, false, not, ◌&&◌, List, eqb, length, get_or}
use Rattle.bits.specs.Bits.{bit, mask_below}
use Rattle.bits.specs.Bounded.{◌implies◌}
use Rattle.level.specs.declared.Level.{Level}
use Rattle.level.specs.Levels.{at_most}
use Rattle.policy.specs.declared.Tables.{Tables}
use Rattle.policy.specs.declared.Job.{Job}
use Rattle.policy.specs.Tables.{folder_at, enabled_by, low_water_rule, pipeline_rule}
use Rattle.policy.specs.Plans.{no_job, jobs_of}
use Rattle.recorded.specs.Gathering.{FirstAre}
use Rattle.precedence.specs.Precedence.{lowers_level, needs_level, is_step}
use Rattle.listed.specs.declared.pairs.Side.{Side}

-- what is looked up about a job of this action, person, folder and step, where the folder has this level and the step enables these
unfoldable pub side_by : ℕ → ℕ → ℕ → ℕ → ℕ → Level → ℕ → Side
side_by mask action person folder step level enabled =
    record {
      person = person;
      folder = folder;
      step = step;
      lowers = bit mask low_water_rule && lowers_level action;
      needs = needs_level action;
      steps = bit mask pipeline_rule && is_step action;
      level = level;
      enabled = enabled;
    }

-- the side of a job; each number is taken modulo the length of its array to find its entry
unfoldable pub side_of : Tables → Job → Side
side_of t j =
    side_by t.mask j.action j.person j.target j.step (folder_at t (j.target % 128)).level (enabled_by t (j.step % 16))

-- low-water, the pipeline, and every rule on pairs
unfoldable pub levels_pass : Side → Side → Bool
levels_pass x y = (x.lowers && (y.needs && eqb x.person y.person)) implies at_most 12 y.level.0 x.level.0

unfoldable pub steps_pass : Side → Side → Bool
steps_pass x y = (x.steps && (y.steps && eqb x.folder y.folder)) implies not (bit y.enabled (x.step % 16))

unfoldable pub precedes : Side → Side → Bool
precedes x y = levels_pass x y && steps_pass x y

abbrev pub no_side : Side
no_side =
    record { person = 0; folder = 0; step = 0; lowers = false; needs = false; steps = false; level = record { 0 = 0 }; enabled = 0 }

abbrev pub side_at : List Side → ℕ → Side
side_at sides i = get_or sides i no_side

-- the job at a place of a list in bytes
abbrev pub job_at : List ℕ → ℕ → Job
job_at bytes i = get_or (jobs_of bytes) i no_job

-- the first n sides are those of the first n jobs
pub record SidesOf (t : Tables) (bytes : List ℕ) (n : ℕ) (sides : List Side) : Type 0 where
  pub size : length sides ≡ 64
  pub each : (i : ℕ) → i < n → side_at sides i ≡ side_of t (job_at bytes i)

-- the row of each of the first n sides is the set of those of them that it may not come before
abbrev pub RowsOf : List Side → ℕ → List ℕ → Type 0
RowsOf sides n rows = FirstAre 64 n (λ i. mask_below n (λ j. not (precedes (side_at sides i) (side_at sides j)))) rows
