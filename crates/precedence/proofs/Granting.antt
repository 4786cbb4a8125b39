-- Jobs granted one after another, each over the set of requests granted so far. Putting them is granted throughout exactly where they are,
-- since the history and the set stay in step. And what holds of every set granted so, for wall and roles, and for the pipeline.
use Prim.Native.Nat.{ℕ}
use mathlib.Core.Path.{◌≡◌, refl, sym, ◌∙◌}
use mathlib.Core.Logic.{⊎_elim}
use mathlib.Core.Bool.{Bool, true}
use mathlib.Core.List.Memᴰ
use mathlib.Core.List.{
  List,
  [],
  ◌∷◌,
  Memᴰ,
}
use mathlib.Core.Option.{some, some-injective}
use Rattle.bits.proofs.Booleans.{implies_elim}
use Rattle.policy.specs.declared.Tables.{Tables}
use Rattle.policy.specs.declared.Job.{Job}
use Rattle.policy.specs.Tables.{in_force, low_water_rule, pipeline_rule}
use Rattle.policy.specs.Rulebook.{given}
use Rattle.policy.specs.Request.{Request, request_of, member}
use Rattle.policy.specs.Published.{LowWater, Pipeline}
use Rattle.policy.specs.Calls.{State, judge_over, put_state, put_numbers}
use Rattle.policy.specs.Agreement.{Throughout}
use Rattle.policy.specs.Plans.{job_record, plannable, records}
use Rattle.policy.proofs.Published.{low_water_published, pipeline_published}
use Rattle.policy.proofs.Granted.{PassedOver, judge_passed, passed_judge, put_over, put_granted}
use Rattle.policy.proofs.Histories.{InStep, judge_stands, stands_put}
use Rattle.policy.proofs.Reordering.{Fair, fair_none, fair_more}
use Rattle.policy.proofs.StepOrder.{Lined, lined_none, lined_more}
use Rattle.precedence.proofs.Jobs.{Asks, job_asks}

-- each job is granted over the requests g and those of the jobs before it
unfoldable pub Granted : Tables → List Request → List Job → Type 0
Granted t g [] = Unit {0}
Granted t g (j ∷ jobs) = (r : Request) × Asks t j r × PassedOver t (member g) r × Granted t (r ∷ g) jobs

-- ---- putting jobs

module _ (t : Tables) (ok : given t ≡ true) where
  put_step : (a : State) (g : List Request) (bytes : List ℕ) (r : Request) → InStep t a g → request_of bytes ≡ some r
      → judge_over t (member g) bytes ≡ 0 → InStep t (put_state t a bytes) (r ∷ g)
  unfolding put_over
  put_step a g bytes r s is z = rw (put_granted t g bytes r is z) at (stands_put t ok a g bytes s)

  pub throughout_granted : (jobs : List Job) (a : State) (g : List Request) → InStep t a g
      → ((j : Job) → Memᴰ j jobs → plannable t (request_of (job_record j)) ≡ true) → Throughout t a (records jobs)
      → Granted t g jobs
  unfolding Granted records put_numbers
  throughout_granted [] a g s can h = tt
  throughout_granted (j ∷ jobs) a g s can h =
      let z = sym (judge_stands t ok a g (job_record j) s) ∙ h _ (Memᴰ.head refl) in
      let (r, asks) = job_asks t j (can j (Memᴰ.head refl)) in
      let (q, is, passed) = judge_passed t (member g) (job_record j) z in (
        r,
        asks,
        rw (some-injective q r (sym is ∙ asks.is)) at passed,
        throughout_granted jobs (put_state t a (job_record j)) (r ∷ g) (put_step a g (job_record j) r s asks.is z)
            (λ k m. can k (Memᴰ.tail m)) (λ n m. h n (Memᴰ.tail m)),
      )

  pub granted_throughout : (jobs : List Job) (a : State) (g : List Request) → InStep t a g → Granted t g jobs
      → Throughout t a (records jobs)
  unfolding Granted records put_numbers
  granted_throughout [] a g s h n m = absurd (Memᴰ.not-nil m)
  granted_throughout (j ∷ jobs) a g s (r, asks, passed, rest) n m =
      let z = passed_judge t (member g) (job_record j) r asks.is passed in
      ⊎_elim (λ e. e ∙ judge_stands t ok a g (job_record j) s ∙ z)
      (λ k.
      granted_throughout jobs (put_state t a (job_record j)) (r ∷ g) (put_step a g (job_record j) r s asks.is z) rest n k)
      (Memᴰ.cases_cons m)

-- ---- requests granted one after another

-- what holds of requests granted one after another from none: for wall and roles, and the order of the steps on each folder
pub record Good (t : Tables) (g : List Request) : Type 0 where
  pub fair : Fair t (member g)
  pub lined : in_force t pipeline_rule ≡ true → Lined t g

module _ (t : Tables) where
  pub good_none : Good t []
  good_none = record { fair = fair_none t; lined = λ on. lined_none t on }

  pub good_more : (g : List Request) (r : Request) → Good t g → PassedOver t (member g) r → Good t (r ∷ g)
  good_more g r good p =
      record { fair = fair_more t g r good.fair p; lined = λ on. lined_more t on g r (good.lined on) p }

  pub low_water_passed : (H : Request → Bool) (r : Request) → PassedOver t H r → in_force t low_water_rule ≡ true → LowWater t H r
  low_water_passed H r p on = (low_water_published t H r).0 (implies_elim _ _ p.levelled on)

  pub pipeline_passed : (H : Request → Bool) (r : Request) → PassedOver t H r → in_force t pipeline_rule ≡ true → Pipeline t H r
  pipeline_passed H r p on = (pipeline_published t H r).0 (implies_elim _ _ p.piped on)
