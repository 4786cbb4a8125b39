-- Whether the jobs in bytes can be planned, job by job: the entries of a job's parties say what the definition says of its record; a list
-- in bytes is too long, cut short, has a job that cannot be planned, or is planned.
use Prim.Native.Nat.{ℕ, zero, suc, ◌+◌, ◌*◌, ◌/◌, ◌%◌, ◌≤◌, ◌<◌}
use native.Mathlib.Nat.{eq-or-lt_of_le}
use native.Mathlib.Omega.{arith}
use mathlib.Core.Path.{◌≡◌, refl, sym, ap₂, ◌∙◌}
use mathlib.Core.Logic.{◌≢◌, ⊎_elim}
use mathlib.Core.Bool.{Bool, true, false, ◌&&◌, and-false, and-true}
use mathlib.Core.List.{List, [], ◌∷◌, Memᴰ}
use lib.Dec.{eqb, ltb, leb}
use lib.ListN.{length, get_or}
use borrow.Author.Tests.{eqb-true, eqb-false, ltb-true, leb-true, le-leb, lt-leb}
use Rattle.bits.proofs.Booleans.{decide, false_elim, and_left, and_right}
use Rattle.policy.specs.declared.Tables.{Tables}
use Rattle.policy.specs.declared.Job.{Job}
use Rattle.policy.specs.Tables.{person_at, folder_at, person_declared, folder_declared}
use Rattle.policy.specs.Request.{two, three, request_of}
use Rattle.policy.specs.Rules.{declared}
use Rattle.policy.specs.Plans.{no_job, jobs_of, job_record, jobs_at, no_start, plannable, all_plannable}
use Rattle.questions.proofs.AskingLaws.{same_person, same_folder}
use Rattle.listed.specs.Pairs.{job_at}
use Rattle.planning.specs.Planning.{planned_action, plannable_by}
use Rattle.listed.proofs.JobBytes.{jobs_length}

-- a job's record can be planned
abbrev pub planned : Tables → Job → Bool
planned t j = plannable t (request_of (job_record j))

-- the four actions that are kinds of requests, and all others
pub by_action : {P : Type 0} (action : ℕ) → (action ≡ 16 → P) → (action ≡ 17 → P) → (action ≡ 18 → P) → (action ≡ 19 → P)
    → (eqb action 16 ≡ false → eqb action 17 ≡ false → eqb action 18 ≡ false → eqb action 19 ≡ false → P) → P
by_action {P} action p q r s others = go (eqb action 16) (eqb action 17) (eqb action 18) (eqb action 19) refl refl refl refl
  where
    go : (a b c d : Bool) → eqb action 16 ≡ a → eqb action 17 ≡ b → eqb action 18 ≡ c → eqb action 19 ≡ d → P
    go true b c d e f g h = p (eqb-true action 16 e)
    go false true c d e f g h = q (eqb-true action 17 f)
    go false false true d e f g h = r (eqb-true action 18 g)
    go false false false true e f g h = s (eqb-true action 19 h)
    go false false false false e f g h = others e f g h

in_steps : (p s o : Bool) → p && s && o ≡ (p && o) && s
in_steps true true o = sym (and-true o)
in_steps true false o = sym (and-false o)
in_steps false s o = refl

module _ (t : Tables) (j : Job) where
  known : Bool
  known = person_declared t j.person && folder_declared t j.target

  by_record : planned t j ≡ known && planned_action j.action j.step
  unfolding known planned_action plannable job_record request_of two three no_start declared
  by_record =
      by_action j.action (λ e. rw e (sym (and-true known))) (λ e. rw e (sym (and-true known))) (λ e. rw e (sym (and-false known)))
      (λ e. rw e (in_steps (person_declared t j.person) (leb j.step 15) (folder_declared t j.target)))
      (λ a b c d. rw (d, a, b, c, d) (sym (and-false known)))

  pub by_entries : plannable_by j.action j.person j.target j.step (person_at t (j.person % 64)) (folder_at t (j.target % 128))
      ≡ planned t j
  unfolding plannable_by known
  by_entries =
      ap₂ (λ (p o : Bool). (p && o) && planned_action j.action j.step) (same_person t j.person) (same_folder t j.target)
      ∙ sym by_record

  -- a job that can be planned has a folder in range, and as a step a step in range
  pub folder_below : planned t j ≡ true → j.target < 128
  unfolding known folder_declared
  folder_below e =
      let both = and_left known (planned_action j.action j.step) (sym by_record ∙ e) in
      ltb-true j.target 128 (and_left (ltb j.target 128) _ (and_right (person_declared t j.person) _ both))

  pub step_below_lem : planned t j ≡ true → eqb j.action 19 ≡ true → j.step < 16
  unfolding planned_action
  step_below_lem e is =
      let action = and_right known (planned_action j.action j.step) (sym by_record ∙ e) in
      let l = leb-true j.step 15 (rw (eqb-true j.action 19 is) at action) in
      omega arith

-- ---- lists

-- each of the first n jobs can be planned
abbrev pub PlannedBelow : Tables → List ℕ → ℕ → Type 0
PlannedBelow t bytes n = (i : ℕ) → i < n → planned t (job_at bytes i) ≡ true

pub planned_more : (t : Tables) (bytes : List ℕ) (n : ℕ) → PlannedBelow t bytes n → planned t (job_at bytes n) ≡ true
    → PlannedBelow t bytes (n + 1)
planned_more t bytes n each e i l =
    ⊎_elim (λ (same : i ≡ n). rw same e) (λ below. each i below) (eq-or-lt_of_le (omega arith))

all_of : (t : Tables) (jobs : List Job) → ((i : ℕ) → i < length jobs → planned t (get_or jobs i no_job) ≡ true) → all_plannable t jobs ≡ true
unfolding all_plannable
all_of t [] each = refl
all_of t (j ∷ jobs) each = rw (each 0 (omega arith)) (all_of t jobs (λ i l. each (suc i) (omega arith)))

pub planned_at : (t : Tables) (jobs : List Job) → all_plannable t jobs ≡ true → (i : ℕ) → i < length jobs
    → planned t (get_or jobs i no_job) ≡ true
unfolding all_plannable
planned_at t [] can i l = let z : ⊥ = omega arith in absurd z
planned_at t (j ∷ jobs) can zero l = and_left (planned t j) _ can
planned_at t (j ∷ jobs) can (suc i) l = planned_at t jobs (and_right (planned t j) _ can) i (omega arith)

-- and so can jobs of the list in any order
pub planned_order : (t : Tables) (jobs : List Job) → all_plannable t jobs ≡ true → (order : List ℕ)
    → ((i : ℕ) → Memᴰ i order → i < length jobs) → all_plannable t (jobs_at jobs order) ≡ true
unfolding jobs_at all_plannable
planned_order t jobs can [] below = refl
planned_order t jobs can (i ∷ order) below =
    rw (planned_at t jobs can i (below i (Memᴰ.head refl))) (planned_order t jobs can order (λ k m. below k (Memᴰ.tail m)))

one_fails : (t : Tables) (jobs : List Job) (i : ℕ) → i < length jobs → planned t (get_or jobs i no_job) ≡ false → all_plannable t jobs ≡ false
unfolding all_plannable
one_fails t [] i l e = let z : ⊥ = omega arith in absurd z
one_fails t (j ∷ jobs) zero l e = rw e
one_fails t (j ∷ jobs) (suc i) l e = rw (one_fails t jobs i (omega arith) e) (and-false (planned t j))

-- no list of bytes has more than four for each job
covered : (bytes : List ℕ) → length bytes ≤ 4 * length (jobs_of bytes)
unfolding jobs_of
covered [] = omega arith
covered (a ∷ []) = omega arith
covered (a ∷ b ∷ []) = omega arith
covered (a ∷ b ∷ c ∷ []) = omega arith
covered (a ∷ b ∷ c ∷ d ∷ bytes) = omega (arith, covered bytes)

no_job_fails : (t : Tables) → planned t no_job ≡ false
unfolding plannable job_record request_of
no_job_fails t = refl

cut_fails : (t : Tables) (bytes : List ℕ) → length bytes % 4 ≢ 0 → all_plannable t (jobs_of bytes) ≡ false
unfolding jobs_of all_plannable
cut_fails t [] cut = absurd (cut refl)
cut_fails t (a ∷ []) cut = rw (no_job_fails t)
cut_fails t (a ∷ b ∷ []) cut = rw (no_job_fails t)
cut_fails t (a ∷ b ∷ c ∷ []) cut = rw (no_job_fails t)
cut_fails t (a ∷ b ∷ c ∷ d ∷ bytes) cut =
    rw (cut_fails t bytes (λ e. cut (omega arith))) (and-false (planned t (record { action = a; person = b; target = c; step = d })))

-- jobs that can all be planned are whole, and at most 64 of them are at most 256 bytes
pub whole_jobs : (t : Tables) (bytes : List ℕ) → all_plannable t (jobs_of bytes) ≡ true → length bytes ≡ 4 * (length bytes / 4)
whole_jobs t bytes can =
    ⊎_elim (λ e. let whole = eqb-true (length bytes % 4) 0 e in omega arith)
    (λ f. absurd (false_elim (all_plannable t (jobs_of bytes)) (cut_fails t bytes (eqb-false (length bytes % 4) 0 f)) can))
    (decide (eqb (length bytes % 4) 0))

pub few_bytes : (bytes : List ℕ) → length (jobs_of bytes) ≤ 64 → length bytes ≤ 256
few_bytes bytes few = omega (arith, covered bytes)

module _ (t : Tables) (bytes : List ℕ) where
  abbrev test : Bool
  test = leb (length (jobs_of bytes)) 64 && all_plannable t (jobs_of bytes)

  pub too_long_lem : 256 < length bytes → false ≡ test
  too_long_lem l = rw (lt-leb (length (jobs_of bytes)) 64 (omega (arith, covered bytes)))

  pub cut_short : length bytes % 4 ≢ 0 → false ≡ test
  cut_short cut = rw (cut_fails t bytes cut) (sym (and-false (leb (length (jobs_of bytes)) 64)))

  pub not_planned : (n i : ℕ) → length bytes ≡ 4 * n → i < n → planned t (job_at bytes i) ≡ false → false ≡ test
  not_planned n i e l f =
      rw (one_fails t (jobs_of bytes) i (rw (jobs_length n bytes e) l) f) (sym (and-false (leb (length (jobs_of bytes)) 64)))

  pub all_planned : (n : ℕ) → length bytes ≡ 4 * n → n ≤ 64 → PlannedBelow t bytes n → true ≡ test
  all_planned n e l each =
      let size = jobs_length n bytes e in
      rw (le-leb (length (jobs_of bytes)) 64 (omega arith), all_of t (jobs_of bytes) (λ i b. each i (omega arith)))
