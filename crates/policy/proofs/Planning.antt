-- Document 02, Point 6, of every answer of plan: its number is that of its first cause, its positions hold each place once, and after a
-- list from blank it plans exactly where an order exists. Each check refuses exactly where its cause holds, and the order handed back is a
-- reordering of the jobs.
use Prim.Native.Nat.{ℕ, zero, suc, ◌-◌, ◌+◌, ◌≤◌, ◌<◌}
use native.Mathlib.Nat.{not-suc-le-zero, le_of_suc-le-suc}
use native.Mathlib.Omega.{arith}
use mathlib.Core.Path.{◌≡◌, refl, sym, ap, ap₂, ◌∙◌}
use mathlib.Core.Logic.{◌⊎◌, inl, inr, ⊎_elim, ◌↔◌, ◌≢◌}
use mathlib.Core.List.Memᴰ
use mathlib.Core.List.{List, [], ◌∷◌, ◌++◌, Memᴰ, Perm}
use lib.Dec.{leb}
use lib.Seq.{ext_get_or}
use lib.ListN.{length, get_or, replicate, length-append, length-replicate, get_or-append}
use borrow.Author.Tests.{leb-false, lt-leb, leb-true}
use Rattle.bits.proofs.Booleans.{and_left}
use Rattle.policy.specs.declared.Tables.{Tables}
use Rattle.policy.specs.declared.Job.{Job}
use Rattle.policy.specs.declared.Plan.{Plan}
use Rattle.policy.specs.Checks.{ladder}
use Rattle.policy.specs.Calls.{State, call_checks, blank_number}
use Rattle.policy.specs.Given.{OfType}
use Rattle.policy.specs.Causes.{Answer}
use Rattle.policy.specs.Agreement.{Throughout}
use Rattle.policy.specs.Plans.{
  no_job,
  job_record,
  all_plannable,
  plan_refusal,
  records,
  jobs_at,
  places,
  LeftByList,
  HasOrder,
  IsOrder,
  IsPlan,
}
use Rattle.policy.specs.Planning.{plan_causes, EachOnce, PutSo, EachRefused, Planning}
use Rattle.policy.proofs.Answers.{Refuses, one_row, no_rows, refuses_either}
use Rattle.policy.proofs.Ladders.{ladder_member, ladder_zero, permit_first, all_stand_in_lem}
use Rattle.policy.proofs.CallChecks.{taken_then, refused_first}
use Rattle.policy.proofs.CallCauses.{call_rows}
use Rattle.policy.proofs.JobOrders.{
  jobs_placed,
  permuted_records,
  records_count,
  record_at,
  places_count,
  count_placed,
  order_below,
  order_each,
  order_once,
}
use Rattle.policy.proofs.JobRecords.{asked_record, bytes_jobs, bytes_cut, no_job_asks, refused_jobs}

-- ---- zeros after an order

zeros_at : (n k : ℕ) → get_or {A = ℕ} (replicate n 0) k 0 ≡ 0
zeros_at zero k = refl
zeros_at (suc n) zero = refl
zeros_at (suc n) (suc k) = zeros_at n k

zeros_after : (l : List ℕ) (n k : ℕ) → length l ≤ k → get_or (l ++ replicate n 0) k 0 ≡ 0
zeros_after [] n k h = zeros_at n k
zeros_after (x ∷ l) n zero h = absurd (not-suc-le-zero h)
zeros_after (x ∷ l) n (suc k) h = zeros_after l n k (le_of_suc-le-suc h)

module _ (t : Tables) (a : State) (jobs : List Job) where
  -- ---- the number of the checks

  refusal_number : Memᴰ (plan_refusal t a jobs) (0 ∷ 10 ∷ 20 ∷ 11 ∷ 22 ∷ [])
  unfolding plan_refusal call_checks
  refusal_number = ladder_member _

  refusal_causes : (n : ℕ) → OfType t → (plan_refusal t a jobs ≡ n) ↔ Answer (plan_causes t a jobs) n
  unfolding plan_refusal
  refusal_causes n typed = (call_rows t typed a (one_row refl (refuses_either too_many (refused_jobs t jobs)) no_rows)).number n
    where
      too_many : Refuses (leb (length jobs) 64) (64 < length jobs)
      too_many = (leb-false (length jobs) 64, lt-leb (length jobs) 64)

  refused_beginning : blank_number t a ≢ 0 → plan_refusal t a jobs ≡ blank_number t a
  unfolding plan_refusal blank_number
  refused_beginning n = refused_first t a _ n

  at_most_64 : plan_refusal t a jobs ≡ 0 → length jobs ≤ 64
  unfolding plan_refusal
  at_most_64 e =
      let (ready, later) = taken_then t a _ e in
      leb-true (length jobs) 64 (and_left _ (all_plannable t jobs) (permit_first (ladder_zero _ refl later)))

  -- ---- an order handed back

  module _ (positions : List ℕ) (w : IsOrder t a jobs positions) where
    ordered : HasOrder t a jobs
    ordered = (records (jobs_at jobs w.order), permuted_records jobs w.order w.each, w.granted)

    order_count : length w.order ≡ length jobs
    order_count = count_placed (length jobs) w.order w.each

    in_order : (k : ℕ) → k < length jobs → (k < length w.order) × (get_or positions k 0 ≡ get_or w.order k 0)
    in_order k h =
        let inside : k < length w.order = rw order_count h in
        (inside, ap (λ (l : List ℕ). get_or l k 0) w.then ∙ get_or-append w.order _ 0 k inside)

    each_once : length jobs ≤ 64 → EachOnce (length jobs) positions
    each_once h =
        record {
          size =
              ap length w.then ∙ length-append w.order _
              ∙ ap₂ ◌+◌ order_count (length-replicate {A = ℕ} (64 - length jobs) 0) ∙ omega arith;
          below = λ k h. let (inside, e) = in_order k h in rw e (order_below _ w.order w.each k inside);
          each = λ i h.
              let (k, inside, e) = order_each _ w.order w.each i h in
              let within : k < length jobs = rw order_count at inside in
              (k, within, (in_order k within).1 ∙ e);
          once = λ k l h h' e.
              let (inside, f) = in_order k h in
              let (inside', g) = in_order l h' in
              order_once _ w.order w.each k l inside inside' (sym f ∙ e ∙ g);
          rest = λ k h. ap (λ (l : List ℕ). get_or l k 0) w.then ∙ zeros_after w.order (64 - length jobs) k (rw order_count h);
        }

    put_so : (calls : List (List ℕ)) → PutSo jobs positions calls → Throughout t a calls
    put_so calls so = rw same w.granted
      where
        same : calls ≡ records (jobs_at jobs w.order)
        same =
            let count = records_count jobs w.order in
            ext_get_or [] _ _ (so.size ∙ sym order_count ∙ sym count) (λ k h.
            let within : k < length jobs = rw so.size at h in
            let (inside, e) = in_order k within in
            so.at k within ∙ ap (λ (i : ℕ). job_record (get_or jobs i no_job)) e ∙ sym (record_at jobs w.order k inside))

  -- ---- an answer of plan

  module _ (r : Plan) (w : IsPlan t a jobs r) where
    answer_number : Memᴰ r.number (0 ∷ 10 ∷ 20 ∷ 11 ∷ 22 ∷ 23 ∷ [])
    answer_number =
        ⊎_elim (λ e. Memᴰ.cast e (all_stand_in_lem _ _ _ refl refusal_number)) (λ x. all_stand_in_lem _ (23 ∷ []) _ refl (Memᴰ.head x.1))
        w.number

    answer_refused : plan_refusal t a jobs ≢ 0 → r.number ≡ plan_refusal t a jobs
    answer_refused n = ⊎_elim (λ e. e) (λ x. absurd (n x.0)) w.number

    answer_looked : plan_refusal t a jobs ≡ 0 → (r.number ≡ 0) ⊎ (r.number ≡ 23)
    answer_looked z = ⊎_elim (λ e. inl (e ∙ z)) (λ x. inr x.1) w.number

    unrefused : r.number ≡ 0 → plan_refusal t a jobs ≡ 0
    unrefused z = ⊎_elim (λ e. sym e ∙ z) (λ x. x.0) w.number

    answer_decides : LeftByList t a → plan_refusal t a jobs ≡ 0 → (r.number ≡ 0) ↔ HasOrder t a jobs
    answer_decides left z = (
      λ e. ordered r.positions (w.order e),
      λ h. ⊎_elim (λ e. e) (λ e. absurd (w.complete e left h)) (answer_looked z),
    )

    answer_wanting : r.number ≡ 23 → EachRefused t a jobs
    answer_wanting e b before calls gives blank after p granted = w.complete e (gives, (b, before, blank, after)) (calls, p, granted)

    answer_zeros : r.number ≢ 0 → (length r.positions ≡ 64) × ((k : ℕ) → get_or r.positions k 0 ≡ 0)
    answer_zeros n = (
      ap length (w.zeros n) ∙ length-replicate {A = ℕ} 64 0,
      λ k. ap (λ (l : List ℕ). get_or l k 0) (w.zeros n) ∙ zeros_at 64 k,
    )

  -- ---- what is an answer of plan

  free_answer : plan_refusal t a jobs ≡ 0 → jobs ≢ [] → EachRefused t a jobs
      → IsPlan t a jobs (record { number = 23; positions = replicate 64 0 })
  free_answer z more refused =
      record {
        number = inr (z, refl);
        zeros = λ n. refl;
        order = λ e. let w : ⊥ = omega arith in absurd w;
        complete = λ e left h.
            let (gives, (b, before, blank, after)) = left in
            refused b before h.0 gives blank after h.1 h.2;
        none = λ e. absurd (more e);
      }

  chosen_answer : (order : List ℕ) → plan_refusal t a jobs ≡ 0 → Perm (places (length jobs)) order
      → Throughout t a (records (jobs_at jobs order))
      → IsPlan t a jobs (record { number = 0; positions = order ++ replicate (64 - length jobs) 0 })
  chosen_answer order z p granted =
      record {
        number = inl (sym z);
        zeros = λ n. absurd (n refl);
        order = λ e. record { order = order; each = p; then = refl; granted = granted };
        complete = λ e. let w : ⊥ = omega arith in absurd w;
        none = λ e n. let w : ⊥ = omega arith in w;
      }

-- a plan that a check refuses, and not for want of an order
pub refused_answer : (t : Tables) (a : State) (jobs : List Job) (r : Plan) → r.number ≡ plan_refusal t a jobs → r.number ≢ 0
    → r.number ≢ 23 → r.positions ≡ replicate 64 0 → IsPlan t a jobs r
refused_answer t a jobs r e other late zeros =
    record {
      number = inl e;
      zeros = λ k. zeros;
      order = λ z. absurd (other z);
      complete = λ z. absurd (late z);
      none = λ empty. late;
    }

-- the records of a list, one for each job
listed_records : (jobs : List Job) → PutSo jobs (places (length jobs)) (records jobs)
unfolding places
listed_records jobs =
    let count = places_count 0 (length jobs) in
    let same = ap records (jobs_placed jobs) in
    record {
      size = sym (ap length same) ∙ records_count jobs (places (length jobs)) ∙ count;
      at = λ k h.
          ap (λ (l : List (List ℕ)). get_or l k []) (sym same) ∙ record_at jobs (places (length jobs)) k (rw count h);
    }

-- a list of no jobs is refused only as blank is
empty_refusal : (t : Tables) (a : State) → plan_refusal t a [] ≡ blank_number t a
unfolding plan_refusal blank_number call_checks ladder all_plannable
empty_refusal t a = refl

empty_answer : (t : Tables) (a : State) (r : Plan) → IsPlan t a [] r → r.number ≡ blank_number t a
empty_answer t a r w = ⊎_elim (λ e. e ∙ empty_refusal t a) (λ x. absurd (w.none refl x.1)) w.number

pub planning : Planning
planning =
    record {
      asks = asked_record;
      bytes = bytes_jobs;
      cut = λ jobs b rest h. (no_job, bytes_cut jobs b rest h, no_job_asks);
      listed = listed_records;
      numbers = answer_number;
      causes = refusal_causes;
      refused = answer_refused;
      looked = answer_looked;
      beginning = refused_beginning;
      empty = empty_answer;
      positions = λ t a jobs r w e.
          each_once t a jobs r.positions (w.order e) (at_most_64 t a jobs (unrefused t a jobs r w e));
      granted = λ t a jobs r w e. put_so t a jobs r.positions (w.order e);
      zeros = answer_zeros;
      decides = answer_decides;
      never = λ t a jobs r w none e. none (ordered t a jobs r.positions (w.order e));
      wanting = answer_wanting;
      free = free_answer;
      chosen = chosen_answer;
    }
