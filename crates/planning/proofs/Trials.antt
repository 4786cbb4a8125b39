-- Putting the records of jobs one after another is a run of them: a record says the same to a call, whatever bytes follow it, and the next
-- one stands right behind it. A run that refuses nothing has granted each.
use Prim.Native.Nat.{ℕ, zero, suc, ◌+◌, ◌*◌, ◌≤◌, ◌<◌}
use native.Mathlib.Omega.{arith}
use mathlib.Core.Path.{◌≡◌, refl, sym, ap, ◌∙◌}
use mathlib.Core.Logic.{◌↔◌, ⊎_elim}
use mathlib.Core.Bool.{Bool, true, false, false≢true}
use mathlib.Core.List.Memᴰ
use mathlib.Core.List.{
  List,
  [],
  ◌∷◌,
  ◌++◌,
  Memᴰ,
}
use lib.Dec.{eqb, leb}
use lib.ListN.{length, get_or, take, drop}
use borrow.Author.Tests.{eqb-true, eq-eqb, le-leb}
use Rattle.bits.proofs.Booleans.{decide, and_left, and_right}
use Rattle.policy.specs.declared.Tables.{Tables}
use Rattle.policy.specs.declared.Job.{Job}
use Rattle.policy.specs.declared.Ran.{Ran}
use Rattle.policy.specs.Checks.{ladder}
use Rattle.policy.specs.Request.{two, three, request_of, record_length}
use Rattle.policy.specs.Calls.{
  State,
  judge_number,
  put_state,
  put_numbers,
  after_record,
  calls_from,
  calls_of,
  answers_due,
  refused_in,
  run_number,
  ran,
}
use Rattle.policy.specs.Agreement.{Throughout}
use Rattle.policy.specs.Plans.{jobs_of, job_record, plannable, all_plannable, records, jobs_at}
use Rattle.policy.proofs.CallChecks.{Ready, ready_then}
use Rattle.request.specs.Parsed.{next_after, next_record}
use Rattle.putting.proofs.Records.{calls_none, calls_more}
use Rattle.loaded.specs.Refused.{RunIs}
use Rattle.listed.specs.Records.{joined, PlacesBelow, requests_by}
use Rattle.listed.proofs.JobBytes.{jobs_length}
use Rattle.planning.proofs.PlannableLaws.{planned, by_action, planned_order}

-- ---- a run that refuses nothing

no_refusal : (numbers : List ℕ) → refused_in numbers ≡ 0 → (n : ℕ) → Memᴰ n numbers → n ≡ 0
unfolding refused_in
no_refusal [] e n m = absurd (Memᴰ.not-nil m)
no_refusal (x ∷ numbers) e n m =
    ⊎_elim
    (λ (y : eqb x 0 ≡ true).
    ⊎_elim (λ i. i ∙ eqb-true x 0 y) (λ k. no_refusal numbers (omega (arith, rw y at e)) n k) (Memᴰ.cases_cons m))
    (λ (f : eqb x 0 ≡ false). let some : 1 + refused_in numbers ≡ 0 = rw f at e in let z : ⊥ = omega arith in absurd z)
    (decide (eqb x 0))

all_zero : (numbers : List ℕ) → ((n : ℕ) → Memᴰ n numbers → n ≡ 0) → refused_in numbers ≡ 0
unfolding refused_in
all_zero [] each = refl
all_zero (x ∷ numbers) each =
    rw (eq-eqb x 0 (each x (Memᴰ.head refl))) (omega (arith, all_zero numbers (λ n m. each n (Memᴰ.tail m))))

-- answers due are at most the bytes
due_turns : (n : ℕ) (bytes : List ℕ) → length (calls_from n bytes) ≤ n
unfolding calls_from
due_turns zero bytes = omega arith
due_turns (suc n) [] = omega arith
due_turns (suc n) (kind ∷ body) =
    omega (arith, due_turns n (after_record (request_of (kind ∷ body)) (kind ∷ body)))

pub due_within : (requests : List ℕ) → answers_due requests ≤ length requests
unfolding answers_due calls_of
due_within requests = due_turns (length requests) requests

module _ (t : Tables) (a : State) (ready : Ready t a) where
  pub run_grants : (requests lent : List ℕ) {r : Ran} {left : State} {written : List ℕ} → length requests ≤ length lent
      → RunIs t a requests lent r left written → (eqb r.refused 0 ≡ true) ↔ Throughout t a (calls_of requests)
  unfolding ran run_number ladder
  run_grants requests lent {r} room is =
      let due : leb (answers_due requests) (length lent) ≡ true =
      le-leb (answers_due requests) (length lent) (omega (arith, due_within requests)) in
      let zero : run_number t a requests lent ≡ 0 = ready_then t a _ ready ∙ rw due in
      let counts : r.refused ≡ refused_in (put_numbers t a (calls_of requests)) = ap (λ (x : Ran). x.refused) is.returned ∙ rw zero in
      (λ e. no_refusal _ (sym counts ∙ eqb-true _ 0 e), λ h. eq-eqb _ 0 (counts ∙ all_zero _ h))

-- ---- the records of jobs

-- what a call does depends on the request at the front of its bytes
same_call : (t : Tables) (a : State) (b c : List ℕ) → request_of b ≡ request_of c
    → (judge_number t a b ≡ judge_number t a c) × (put_state t a b ≡ put_state t a c)
unfolding judge_number put_state
same_call t a b c e = (rw e, rw e)

record Whole (record₁ : List ℕ) (rest : List ℕ) : Type 0 where
  some : 0 < length (record₁ ++ rest)
  same : request_of (record₁ ++ rest) ≡ request_of record₁
  next : drop (next_record (record₁ ++ rest)) (record₁ ++ rest) ≡ rest

whole : (t : Tables) (j : Job) (rest : List ℕ) → planned t j ≡ true → Whole (job_record j) rest
unfolding job_record request_of two three plannable next_record next_after record_length
whole t j rest e =
    by_action j.action (λ i. rw i (record { some = omega arith; same = refl; next = refl }))
    (λ i. rw i (record { some = omega arith; same = refl; next = refl }))
    (λ i. rw i (record { some = omega arith; same = refl; next = refl }))
    (λ i. rw i (record { some = omega arith; same = refl; next = refl }))
    (λ a b c d. absurd (false≢true (rw (d, a, b, c, d) at e)))

pub same_numbers : (t : Tables) (jobs : List Job) (a : State) → all_plannable t jobs ≡ true
    → put_numbers t a (calls_of (joined (records jobs))) ≡ put_numbers t a (records jobs)
unfolding joined records put_numbers all_plannable
same_numbers t [] a can = rw (calls_none [] (omega arith))
same_numbers t (j ∷ jobs) a can =
    let w = whole t j (joined (records jobs)) (and_left (planned t j) _ can) in
    let call = same_call t a _ (job_record j) w.same in
    rw (calls_more (job_record j ++ joined (records jobs)) w.some, w.next, call.0, call.1)
    (ap (λ (more : List ℕ). judge_number t a (job_record j) ∷ more)
    (same_numbers t jobs (put_state t a (job_record j)) (and_right (planned t j) _ can)))

-- ---- a run of the records in an order

taken_below : (n : ℕ) (positions : List ℕ) (k : ℕ) → ((j : ℕ) → j < k → get_or positions j 0 < n)
    → (i : ℕ) → Memᴰ i (take k positions) → i < n
taken_below n [] zero below i m = absurd (Memᴰ.not-nil m)
taken_below n [] (suc k) below i m = absurd (Memᴰ.not-nil m)
taken_below n (p ∷ positions) zero below i m = absurd (Memᴰ.not-nil m)
taken_below n (p ∷ positions) (suc k) below i m =
    ⊎_elim (λ (e : i ≡ p). rw e (below 0 (omega arith)))
    (λ rest. taken_below n positions k (λ j l. below (suc j) (omega arith)) i rest) (Memᴰ.cases_cons m)

module _ (t : Tables) (a : State) (bytes positions : List ℕ) (n : ℕ) (size : length bytes ≡ 4 * n) (below : PlacesBelow n positions)
    (can : all_plannable t (jobs_of bytes) ≡ true) where
  abbrev order : List Job
  order = jobs_at (jobs_of bytes) (take n positions)

  can_order : all_plannable t order ≡ true
  can_order =
      planned_order t (jobs_of bytes) can (take n positions) (λ i m.
      rw (jobs_length n bytes size) (taken_below n positions n below.each i m))

  pub granted_records : {requests : List ℕ} {r : Bool} → requests ≡ requests_by bytes positions n
      → (r ≡ true) ↔ Throughout t a (calls_of requests) → (r ≡ true) ↔ Throughout t a (records order)
  granted_records {requests} {r} e w =
      let same : put_numbers t a (calls_of requests) ≡ put_numbers t a (records order) =
      ap (λ (x : List ℕ). put_numbers t a (calls_of x)) e ∙ same_numbers t order a can_order in
      (λ h n m. w.0 h n (rw same m), λ h. w.1 (λ n m. h n (rw same at m)))
