-- What the rules ask of a job, told by its four bytes: a job that can be planned is a read, a write or a step, and for each of the three
-- the tests on its bytes say what the rules say of its request. And what the test of two jobs says, taken apart.
use Prim.Native.Nat.{ℕ}
use mathlib.Core.Path.{◌≡◌, refl, ap}
use mathlib.Core.Logic.{⊎_elim, ◌↔◌}
use mathlib.Core.Bool.{Bool, true, false, not, ◌&&◌, false≢true}
use mathlib.Core.Option.{Option, none, some}
use lib.Dec.{eqb}
use borrow.Author.Tests.{eqb-true, eq-eqb, not-true}
use Rattle.bits.specs.Bounded.{◌implies◌}
use Rattle.bits.proofs.Booleans.{decide, false_elim, false_intro, by_test}
use Rattle.level.specs.Levels.{at_most}
use Rattle.policy.specs.declared.Tables.{Tables}
use Rattle.policy.specs.declared.Job.{Job}
use Rattle.policy.specs.Tables.{enables, in_force, low_water_rule, pipeline_rule}
use Rattle.policy.specs.Request.{Request, read, write, step, two, three, request_of}
use Rattle.policy.specs.Published.{Observes, BelowAll, LowWater}
use Rattle.policy.specs.Plans.{job_record, no_start, plannable}
use Rattle.precedence.specs.Precedence.{lowers_level, needs_level, is_step, job_level, levels_permit, steps_permit}

-- ---- a job and its request

-- r is the request of job j, and the tests on j say of r what the rules see
pub record Asks (t : Tables) (j : Job) (r : Request) : Type 0 where
  pub is : request_of (job_record j) ≡ some r
  pub lowers : (s o : ℕ) → Observes r s o ↔ ((lowers_level j.action ≡ true) × (j.person ≡ s) × (j.target ≡ o))
  pub needs : (H : Request → Bool) → LowWater t H r ↔ (needs_level j.action ≡ true → BelowAll t H (job_level t j) j.person)
  pub steps : (s p o : ℕ) → (r ≡ step s p o) ↔ ((is_step j.action ≡ true) × (j.person ≡ s) × (j.step ≡ p) × (j.target ≡ o))

module _ (t : Tables) (j : Job) where
  read_asks : j.action ≡ 16 → Asks t j (read j.person j.target)
  unfolding job_record request_of two lowers_level needs_level is_step
  read_asks e =
      record {
        is = rw e refl;
        lowers = λ s o. (λ w. (rw e refl, w.0, w.1), λ w. (w.1, w.2));
        needs = λ H. (λ w n. absurd (false≢true (rw e at n)), λ w. tt);
        steps = λ s p o. (
          λ i. let z : false ≡ true = cc in absurd (false≢true z),
          λ w. absurd (false≢true (rw e at w.0)),
        );
      }

  write_asks : j.action ≡ 17 → Asks t j (write j.person j.target)
  unfolding job_record request_of two lowers_level needs_level is_step job_level
  write_asks e =
      record {
        is = rw e refl;
        lowers = λ s o. (λ w. absurd w, λ w. absurd (false≢true (rw e at w.0)));
        needs = λ H. (λ w n. w, λ w. w (rw e refl));
        steps = λ s p o. (
          λ i. let z : false ≡ true = cc in absurd (false≢true z),
          λ w. absurd (false≢true (rw e at w.0)),
        );
      }

  step_asks : j.action ≡ 19 → Asks t j (step j.person j.step j.target)
  unfolding job_record request_of three lowers_level needs_level is_step job_level
  step_asks e =
      record {
        is = rw e refl;
        lowers = λ s o. (λ w. (rw e refl, w.0, w.1), λ w. (w.1, w.2));
        needs = λ H. (λ w n. w, λ w. w (rw e refl));
        steps = λ s p o. (λ i. (rw e refl, cc, cc, cc), λ w. let (k, a, b, c) = w in cc);
      }

  -- any other job cannot be planned
  no_other : eqb j.action 16 ≡ false → eqb j.action 17 ≡ false → eqb j.action 19 ≡ false
      → plannable t (request_of (job_record j)) ≡ false
  unfolding job_record request_of two plannable no_start
  no_other a b c =
      rw (c, a, b, c) (by_test (λ (o : Option Request). plannable t o ≡ false) (eqb j.action 18) _ none (λ d. refl) (λ d. refl))

  pub job_asks : plannable t (request_of (job_record j)) ≡ true → (r : Request) × Asks t j r
  job_asks h =
      ⊎_elim (λ a. (_, read_asks (eqb-true j.action 16 a)))
      (λ a.
      ⊎_elim (λ b. (_, write_asks (eqb-true j.action 17 b)))
      (λ b.
      ⊎_elim (λ c. (_, step_asks (eqb-true j.action 19 c))) (λ c. absurd (false_elim _ (no_other a b c) h))
      (decide (eqb j.action 19)))
      (decide (eqb j.action 17)))
      (decide (eqb j.action 16))

-- ---- the test of two jobs

-- "if these four, then that"
four_imply : (a b c d e : Bool) → ((a && (b && (c && d))) implies e ≡ true)
    ↔ (a ≡ true → b ≡ true → c ≡ true → d ≡ true → e ≡ true)
four_imply true true true true e = (λ h p q r s. h, λ f. f refl refl refl refl)
four_imply true true true false e = (λ h p q r s. absurd (false≢true s), λ f. refl)
four_imply true true false d e = (λ h p q r s. absurd (false≢true r), λ f. refl)
four_imply true false c d e = (λ h p q r s. absurd (false≢true q), λ f. refl)
four_imply false b c d e = (λ h p q r s. absurd (false≢true p), λ f. refl)

module _ (t : Tables) (x y : Job) where
  pub levels_permit_lem : (levels_permit t x y ≡ true)
      ↔ (in_force t low_water_rule ≡ true → lowers_level x.action ≡ true → needs_level y.action ≡ true → x.person ≡ y.person
      → at_most 12 (job_level t y) (job_level t x) ≡ true)
  unfolding levels_permit
  levels_permit_lem =
      let all = four_imply (in_force t low_water_rule) (lowers_level x.action) (needs_level y.action) (eqb x.person y.person) _ in (
        λ h on lowers needs one. all.0 h on lowers needs (eq-eqb _ _ one),
        λ f. all.1 (λ on lowers needs one. f on lowers needs (eqb-true _ _ one)),
      )

  pub steps_permit_lem : (steps_permit t x y ≡ true)
      ↔ (in_force t pipeline_rule ≡ true → is_step x.action ≡ true → is_step y.action ≡ true → x.target ≡ y.target
      → enables t y.step x.step ≡ true → ⊥)
  unfolding steps_permit
  steps_permit_lem =
      let all = four_imply (in_force t pipeline_rule) (is_step x.action) (is_step y.action) (eqb x.target y.target) _ in (
        λ h on first second one. false_elim _ (not-true _ (all.0 h on first second (eq-eqb _ _ one))),
        λ f. all.1 (λ on first second one. ap not (false_intro _ (f on first second (eqb-true _ _ one)))),
      )
