-- A plan from its parts. An order by the rules on pairs that was tried is right on every history; after a list from blank, jobs that keep
-- each other back, or such an order that has a refusal, leave no order that is granted throughout (crate `precedence`).
use Prim.Native.Nat.{ℕ, ◌-◌, ◌≤◌, ◌<◌}
use native.Mathlib.Omega.{arith}
use mathlib.Core.Path.{◌≡◌, refl, sym, ap, ◌∙◌}
use mathlib.Core.Logic.{◌≢◌}
use mathlib.Core.Bool.{Bool, true, false, ◌&&◌}
use mathlib.Core.List.Memᴰ
use mathlib.Core.List.{List, [], ◌∷◌}
use lib.Dec.{leb}
use lib.ListN.{length, take, replicate, length-append, get_or-append}
use lib.Seq.{take_at}
use borrow.Author.Tests.{leb-true, le-leb}
use Rattle.bits.proofs.Booleans.{and_left, and_right, false_elim}
use Rattle.policy.specs.declared.Tables.{Tables}
use Rattle.policy.specs.declared.Job.{Job}
use Rattle.policy.specs.Checks.{ladder}
use Rattle.policy.specs.Calls.{State, call_checks, put_numbers}
use Rattle.policy.specs.Agreement.{Throughout}
use Rattle.policy.specs.Plans.{all_plannable, plan_refusal, records, jobs_at, LeftByList, HasOrder, IsPlan}
use Rattle.policy.proofs.CallChecks.{call_other, checks_as, taken, ready_then, refused_first}
use Rattle.policy.proofs.JobOrders.{count_placed, permuted_jobs, order_below}
use Rattle.policy.proofs.Planning.{planning, refused_answer}
use Rattle.precedence.specs.Precedence.{Stuck}
use Rattle.precedence.proofs.Precedence.{precedence}
use Rattle.questions.specs.Judging.{Ready}
use Rattle.listed.specs.Records.{PlacesBelow, GrantedBy}
use Rattle.planning.specs.Planning.{no_plan, OrderedBy}

module _ (t : Tables) (jobs : List Job) where
  -- the test of 22
  abbrev test : Bool
  test = leb (length jobs) 64 && all_plannable t jobs

  -- where it holds, there are at most 64 jobs, and each can be planned
  pub few_jobs : true ≡ test → length jobs ≤ 64
  few_jobs can = leb-true (length jobs) 64 (and_left (leb (length jobs) 64) _ (sym can))

  pub all_jobs : true ≡ test → all_plannable t jobs ≡ true
  all_jobs can = and_right (leb (length jobs) 64) _ (sym can)

module _ (t : Tables) (a : State) (jobs : List Job) where
  -- ---- the checks

  refused : (n : ℕ) → plan_refusal t a jobs ≡ n → n ≢ 0 → n ≢ 23 → IsPlan t a jobs (no_plan n)
  unfolding no_plan
  refused n e other late = refused_answer t a jobs _ (sym e) other late refl

  pub checks_refuse : (n : ℕ) → n ≡ ladder (call_checks t a) → n ≢ 0 → IsPlan t a jobs (no_plan n)
  unfolding plan_refusal
  checks_refuse n e other =
      refused n (refused_first t a _ (λ z. other (e ∙ z)) ∙ sym e) other (λ late.
      call_other _ _ _ 0 23 (λ z. omega arith) (λ z. omega arith) (λ z. omega arith) (λ z. omega arith)
      (sym (checks_as t a) ∙ sym e ∙ late))

  pub not_plannable : ladder (call_checks t a) ≡ 0 → false ≡ test t jobs → IsPlan t a jobs (no_plan 22)
  unfolding plan_refusal ladder
  not_plannable z f = refused 22 (ready_then t a _ (taken t a z) ∙ rw (sym f)) (λ e. omega arith) (λ e. omega arith)

  -- ---- the order

  module _ (ready : Ready t a.history a.levels) (few : length jobs ≤ 64) (all : all_plannable t jobs ≡ true) where
    no_refusal : plan_refusal t a jobs ≡ 0
    unfolding plan_refusal ladder
    no_refusal =
        ready_then t a _ (record { size = ready.size; held = ready.held; tables = ready.tables })
        ∙ rw (le-leb (length jobs) 64 few, all)

    -- a plan refused for want of an order
    without : jobs ≢ [] → (LeftByList t a → HasOrder t a jobs → ⊥) → IsPlan t a jobs (no_plan 23)
    unfolding no_plan
    without some none =
        planning.free t a jobs no_refusal some (λ b before calls gives blank after p h.
        none (gives, (b, before, blank, after)) (calls, p, h))

    pub kept_back : Stuck t jobs → IsPlan t a jobs (no_plan 23)
    kept_back s =
        without (λ empty. let z : ⊥ = omega (arith, s.inside s.place s.waits, ap length empty) in z)
        (λ left. precedence.stuck t a jobs left all s)

    module _ {positions : List ℕ} (o : OrderedBy t jobs positions) where
      order_length : length o.order ≡ length jobs
      order_length = count_placed (length jobs) o.order o.each

      taken_order : take (length jobs) positions ≡ o.order
      taken_order = rw o.stands (take_at o.order _ (length jobs) order_length)

      pub places_below : PlacesBelow (length jobs) positions
      places_below =
          record {
            size = rw o.stands (omega (arith, length-append o.order (replicate (64 - length jobs) 0), order_length));
            each = λ k l.
                let inside : k < length o.order = rw order_length l in
                rw (o.stands, get_or-append o.order (replicate (64 - length jobs) 0) 0 k inside)
                (order_below (length jobs) o.order o.each k inside);
          }

      pub granted_plan : {r : Bool} → GrantedBy t a jobs positions (length jobs) r → r ≡ true
          → IsPlan t a jobs (record { number = 0; positions = positions })
      granted_plan w e = rw o.stands (planning.chosen t a jobs o.order no_refusal o.each (rw taken_order at (w.0 e)))

      -- nothing is refused of no jobs
      no_jobs : (order : List ℕ) → length order ≡ 0 → Throughout t a (records (jobs_at jobs order))
      unfolding jobs_at records put_numbers
      no_jobs [] e n m = absurd (Memᴰ.not-nil m)
      no_jobs (i ∷ order) e n m = let z : ⊥ = omega arith in absurd z

      pub refused_plan : {r : Bool} → GrantedBy t a jobs positions (length jobs) r → r ≡ false → IsPlan t a jobs (no_plan 23)
      refused_plan {r} w e =
          without
          (λ empty. false_elim r e (w.1 (rw taken_order (no_jobs o.order (order_length ∙ ap length empty)))))
          (λ left has.
          false_elim r e
          (w.1 (rw taken_order
          (precedence.ordered t a jobs (jobs_at jobs o.order) left all (permuted_jobs jobs o.order o.each) o.ordered has))))
