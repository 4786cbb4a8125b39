-- Jobs that keep each other back stand in no order that is granted. In a granted order each job may come before itself and all later ones:
-- a later one that needs a level has passed with the level already lowered, and a way by pairs leads from a step to each later one on its
-- folder, so that a pair the other way round would close a circle. Hence the first of such jobs may come before them all, which none may.
use Prim.Native.Nat.{ℕ}
use mathlib.Core.Path.{◌≡◌, refl}
use mathlib.Core.Logic.{⊎_elim}
use mathlib.Core.Bool.{true}
use mathlib.Core.List.Memᴰ
use mathlib.Core.List.{List, [], ◌∷◌, Memᴰ}
use lib.ListN.{get_or}
use Rattle.bits.proofs.Booleans.{and_both, false_elim}
use Rattle.level.proofs.LevelLaws.{at_most_refl}
use Rattle.policy.specs.declared.Tables.{Tables}
use Rattle.policy.specs.declared.Job.{Job}
use Rattle.policy.specs.Request.{Request, member}
use Rattle.policy.specs.Ways.{Way, one, Enables}
use Rattle.policy.specs.Plans.{no_job}
use Rattle.policy.proofs.Requests.{member_head, member_tail}
use Rattle.policy.proofs.Granted.{PassedOver}
use Rattle.policy.proofs.Lowering.{observes_observed}
use Rattle.policy.proofs.Circles.{way_join}
use Rattle.policy.proofs.StepOrder.{new_way}
use Rattle.precedence.specs.Precedence.{job_level, levels_permit, steps_permit, may_precede, Stuck}
use Rattle.precedence.proofs.Jobs.{Asks, levels_permit_lem, steps_permit_lem}
use Rattle.precedence.proofs.Granting.{Granted, Good, good_more, low_water_passed}

module _ (t : Tables) (no_circle_lem : (p : ℕ) → Way (Enables t) p p → ⊥) where
  before_itself : (x : Job) → may_precede t x x ≡ true
  unfolding may_precede
  before_itself x =
      and_both (levels_permit t x x) (steps_permit t x x) ((levels_permit_lem t x x).1 (λ on lowers needs person. at_most_refl 12 _))
      ((steps_permit_lem t x x).1 (λ on i j folder enabled. no_circle_lem x.step (one enabled)))

  -- a job that is done may come before one that is granted
  before_new : (g : List Request) (x y : Job) (r q : Request) → Good t g → Asks t x r → Asks t y q → member g r ≡ true
      → PassedOver t (member g) q → may_precede t x y ≡ true
  unfolding may_precede job_level
  before_new g x y r q good first second done passed =
      and_both (levels_permit t x y) (steps_permit t x y)
      ((levels_permit_lem t x y).1 (λ on lowers needs person.
      ((second.needs (member g)).0 (low_water_passed t _ q passed on) needs).1 x.target
      (observes_observed t (member g) r _ _ (good.fair.known r done, done) ((first.lowers _ _).1 (lowers, person, refl)))))
      ((steps_permit_lem t x y).1 (λ on i j folder enabled.
      let e = (first.steps _ _ _).1 (i, refl, refl, folder) in
      let f = (second.steps _ _ _).1 (j, refl, refl, refl) in
      no_circle_lem x.step
      (way_join (new_way t on g _ _ _ _ _ (good.lined on) (rw f at passed) (rw e at done)) (one enabled))))

  before_later : (x : Job) (r : Request) (jobs : List Job) (g : List Request) → Good t g → Asks t x r → member g r ≡ true
      → Granted t g jobs → (y : Job) → Memᴰ y jobs → may_precede t x y ≡ true
  unfolding Granted
  before_later x r [] g good asks done h y m = absurd (Memᴰ.not-nil m)
  before_later x r (z ∷ jobs) g good asks done (q, asks', passed, rest) y m =
      ⊎_elim (λ e. rw e (before_new g x z r q good asks asks' done passed))
      (λ k. before_later x r jobs (q ∷ g) (good_more t g q good passed) asks (member_tail q r g done) rest y k)
      (Memᴰ.cases_cons m)

  -- in a granted order that has all jobs that wait none of these is the first, so what follows the first has them all too
  pub none_waits : (jobs : List Job) (s : Stuck t jobs) (order : List Job) (g : List Request) → Good t g → Granted t g order
      → ((i : ℕ) → s.pending i ≡ true → Memᴰ (get_or jobs i no_job) order) → ⊥
  unfolding Granted
  none_waits jobs s [] g good h has = Memᴰ.not-nil (has s.place s.waits)
  none_waits jobs s (x ∷ order) g good (r, asks, passed, rest) has =
      none_waits jobs s order (r ∷ g) after rest
      (λ i w. ⊎_elim (λ e. absurd (not_first i w e)) (λ m. m) (Memᴰ.cases_cons (has i w)))
    where
      after : Good t (r ∷ g)
      after = good_more t g r good passed

      before : (y : Job) → Memᴰ y (x ∷ order) → may_precede t x y ≡ true
      before y m =
          ⊎_elim (λ e. rw e (before_itself x)) (λ k. before_later x r order (r ∷ g) after asks (member_head r g) rest y k)
          (Memᴰ.cases_cons m)

      not_first : (i : ℕ) → s.pending i ≡ true → get_or jobs i no_job ≡ x → ⊥
      not_first i w e =
          let (j, v, kept) = s.kept i w in
          false_elim (may_precede t (get_or jobs i no_job) (get_or jobs j no_job)) kept (rw e (before _ (has j v)))
