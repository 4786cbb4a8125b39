-- The test of two jobs decides whether jobs have an order. After a list from blank the history holds a set granted one request after
-- another, and an order of the records that is granted throughout is one of the jobs; Exchange then shows the one half, Waiting the other.
use Prim.Native.Nat.{ℕ}
use native.Mathlib.Nat.{ℕ_set}
use mathlib.Core.Path.{◌≡◌, refl}
use mathlib.Core.Logic.{⊎_elim, ∥∥₁_elim}
use mathlib.Core.HLevel.{⊥_prop}
use mathlib.Core.Bool.{true}
use mathlib.Core.List.Memᴰ
use mathlib.Core.List.Permᴰ
use mathlib.Core.List.{
  List,
  [],
  ◌∷◌,
  Memᴰ,
  Permᴰ,
}
use Rattle.bits.proofs.Booleans.{and_left, and_right, false_elim}
use Rattle.policy.specs.declared.Tables.{Tables}
use Rattle.policy.specs.declared.Job.{Job}
use Rattle.policy.specs.Rulebook.{given}
use Rattle.policy.specs.Request.{Request, request_of}
use Rattle.policy.specs.Ways.{Way, Enables}
use Rattle.policy.specs.Calls.{State}
use Rattle.policy.specs.Agreement.{Throughout}
use Rattle.policy.specs.Plans.{no_job, job_record, plannable, all_plannable, records, LeftByList}
use Rattle.policy.proofs.Granted.{granted_over, granted_keeps}
use Rattle.policy.proofs.Histories.{InStep, after_puts}
use Rattle.policy.proofs.GivenEntries.{given_entries}
use Rattle.policy.proofs.Circles.{circles, member_at}
use Rattle.policy.proofs.Books.{gives}
use Rattle.policy.proofs.Permuted.{permuted_in}
use Rattle.precedence.specs.Precedence.{Ordered, Stuck, Precedence}
use Rattle.precedence.proofs.Reorderings.{jobs_reordered}
use Rattle.precedence.proofs.Granting.{Granted, throughout_granted, granted_throughout, Good, good_none, good_more}
use Rattle.precedence.proofs.Exchange.{in_order}
use Rattle.precedence.proofs.Waiting.{none_waits}

each_plannable : (t : Tables) (jobs : List Job) → all_plannable t jobs ≡ true
    → (j : Job) → Memᴰ j jobs → plannable t (request_of (job_record j)) ≡ true
unfolding all_plannable
each_plannable t [] h j m = absurd (Memᴰ.not-nil m)
each_plannable t (x ∷ jobs) h j m =
    ⊎_elim (λ e. rw e (and_left (plannable t (request_of (job_record x))) _ h))
    (λ k. each_plannable t jobs (and_right (plannable t (request_of (job_record x))) _ h) j k) (Memᴰ.cases_cons m)

module _ (t : Tables) (a : State) (jobs : List Job) (left : LeftByList t a) (can : all_plannable t jobs ≡ true) where
  ok : given t ≡ true
  ok = ((gives t).1 left.0).1

  -- the requests granted so far
  abbrev past : List Request
  past = granted_over t [] left.1.1

  in_step : InStep t a past
  in_step = rw left.1.3 (after_puts t ok left.1.0 left.1.1 left.1.2)

  good : Good t past
  good = granted_keeps t (Good t) (good_more t) [] left.1.1 (good_none t)

  -- an order of the records that is granted throughout is one of the jobs
  jobs_granted : (calls : List (List ℕ)) → Permᴰ (records jobs) calls → Throughout t a calls
      → (order : List Job) × Permᴰ jobs order × Granted t past order
  jobs_granted calls d h =
      let (order, d', e) = jobs_reordered d jobs refl in (
        order,
        d',
        throughout_granted t ok order a past in_step (λ j m. each_plannable t jobs can j (permuted_in d' j m)) (rw e h),
      )

  ordered_granted : (order : List Job) (calls : List (List ℕ)) → Permᴰ jobs order → Ordered t order
      → Permᴰ (records jobs) calls → Throughout t a calls → Throughout t a (records order)
  ordered_granted order calls d may d' h =
      let (found, c, granted) = jobs_granted calls d' h in
      granted_throughout t ok order a past in_step
      (in_order t order past good (Permᴰ.trans (Permᴰ.symm d) c) granted may)

  no_circle_lem : (p : ℕ) → Way (Enables t) p p → ⊥
  no_circle_lem p w = false_elim _ (given_entries t ok).no_circle ((circles t ((gives t).1 left.0).0).1 (p, w))

  not_stuck : (calls : List (List ℕ)) → Stuck t jobs → Permᴰ (records jobs) calls → Throughout t a calls → ⊥
  not_stuck calls s d h =
      let (found, c, granted) = jobs_granted calls d h in
      none_waits t no_circle_lem jobs s found past good granted
      (λ i w. permuted_in (Permᴰ.symm c) _ (member_at jobs i no_job (s.inside i w)))

pub precedence : Precedence
precedence =
    record {
      ordered = λ t a jobs order left can perm may has n m.
          let (calls, perm', h) = has in
          ∥∥₁_elim perm (ℕ_set n 0) (λ d.
          ∥∥₁_elim perm' (ℕ_set n 0) (λ d'. ordered_granted t a jobs left can order calls d may d' h n m));
      stuck = λ t a jobs left can s has.
          let (calls, perm, h) = has in ∥∥₁_elim perm ⊥_prop (λ d. not_stuck t a jobs left can calls s d h);
    }
