-- A plan of the packed jobs is a plan of the list. What is packed is the first 65 jobs, which are all of a list of at most 65; a longer
-- list is refused as its first 65 jobs are, since both have more than 64.
use Prim.Native.Nat.{ℕ, ◌*◌, ◌-◌, ◌<◌, ◌≤◌, min}
use native.Mathlib.Nat.{min_comm}
use native.Mathlib.Omega.{arith}
use mathlib.Core.Path.{◌≡◌, sym, ap, subst, ◌∙◌}
use mathlib.Core.Logic.{◌≢◌, ⊎_elim}
use mathlib.Core.Bool.{Bool, ◌&&◌}
use mathlib.Core.List.{List, [], ◌∷◌}
use lib.Dec.{leb}
use lib.ListN.{length, take, replicate, length-take}
use lib.Seq.{take_all, take-append_seam, length-take-le}
use borrow.Author.Tests.{lt-leb, leb-true, leb-false}
use Rattle.bits.proofs.Booleans.{decide}
use Rattle.policy.specs.declared.Tables.{Tables}
use Rattle.policy.specs.declared.Job.{Job}
use Rattle.policy.specs.declared.Plan.{Plan}
use Rattle.policy.specs.Checks.{◌else◌, ladder}
use Rattle.policy.specs.Rulebook.{given}
use Rattle.policy.specs.Calls.{State}
use Rattle.policy.specs.Plans.{jobs_of, all_plannable, plan_refusal, IsPlan}
use Rattle.policy.specs.Planning.{job_bytes}
use Rattle.policy.proofs.JobRecords.{bytes_jobs}
use Rattle.policy.proofs.Planning.{refused_answer}
use Rattle.policy.proofs.CallChecks.{size_right, held_right, call_number, call_other, calls_as}
use Rattle.jobs.specs.declared.Packed.{Packed}
use Rattle.jobs.specs.Packing.{packed_bytes, packed_jobs, jobs_in}
use Rattle.jobs.proofs.PackingLaws.{bytes_length}

-- ---- what is packed

jobs_in_lem : (jobs : List Job) → jobs_in (packed_jobs jobs) ≡ take 65 jobs
unfolding jobs_in packed_jobs packed_bytes
jobs_in_lem jobs =
    let size = bytes_length (take 65 jobs) ∙ ap (λ (n : ℕ). 4 * n) (length-take 65 jobs ∙ min_comm 65 (length jobs)) in
    ap (λ (n : ℕ). jobs_of (take n (packed_bytes jobs))) (sym size)
    ∙ ap jobs_of (take-append_seam (job_bytes (take 65 jobs)) (replicate (260 - 4 * length (take 65 jobs)) 0))
    ∙ bytes_jobs (take 65 jobs)

-- ---- a list of more than 64 jobs

too_many : (t : Tables) (a : State) (jobs : List Job) → 64 < length jobs
    → plan_refusal t a jobs ≡ call_number (size_right a) (held_right a) (given t) 22
unfolding plan_refusal ladder
too_many t a jobs l =
    calls_as t a _
    ∙ ap (λ (b : Bool). call_number (size_right a) (held_right a) (given t) (ladder ((b && all_plannable t jobs else 22) ∷ [])))
    (lt-leb _ _ l)

-- it is refused, and not for want of an order
refused : (x y z : Bool) → (call_number x y z 22 ≢ 0) × (call_number x y z 22 ≢ 23)
refused x y z = (
  call_other x y z 22 0 (λ e. omega arith) (λ e. omega arith) (λ e. omega arith) (λ e. omega arith),
  call_other x y z 22 23 (λ e. omega arith) (λ e. omega arith) (λ e. omega arith) (λ e. omega arith),
)

-- so two such lists have the same plans
module _ (t : Tables) (a : State) (packed jobs : List Job) (m : 64 < length packed) (n : 64 < length jobs) (r : Plan)
    (p : IsPlan t a packed r)
  where
    refusal : r.number ≡ call_number (size_right a) (held_right a) (given t) 22
    refusal =
        ⊎_elim (λ e. e ∙ too_many t a packed m) (λ none. absurd ((refused _ _ _).0 (sym (too_many t a packed m) ∙ none.0))) p.number

    not_granted : r.number ≢ 0
    not_granted e = (refused _ _ _).0 (sym refusal ∙ e)

    not_unordered : r.number ≢ 23
    not_unordered e = (refused _ _ _).1 (sym refusal ∙ e)

    many_plan : IsPlan t a jobs r
    many_plan = refused_answer t a jobs r (refusal ∙ sym (too_many t a jobs n)) not_granted not_unordered (p.zeros not_granted)

-- ---- either way

module _ (t : Tables) (a : State) where
  of_same_jobs : (r : Plan) {jobs others : List Job} → jobs ≡ others → IsPlan t a jobs r → IsPlan t a others r
  of_same_jobs r e = subst (λ (jobs : List Job). IsPlan t a jobs r) e

  pub packed_plan : (jobs : List Job) (r : Plan) → IsPlan t a (jobs_in (packed_jobs jobs)) r → IsPlan t a jobs r
  packed_plan jobs r p =
      let first : IsPlan t a (take 65 jobs) r = of_same_jobs r (jobs_in_lem jobs) p in
      ⊎_elim
      (λ few. of_same_jobs r (take_all 65 jobs (leb-true _ 65 few)) first)
      (λ many. let more : 65 < length jobs = leb-false _ 65 many in
      let size = length-take-le 65 jobs (omega arith) in
      many_plan t a (take 65 jobs) jobs (omega (arith, size)) (omega arith) r first)
      (decide (leb (length jobs) 65))

  -- the bytes of the packed jobs: four for each of a list shorter than 65, and else all
  pub shorter_plan : (p : Packed) (r : Plan) → p.len < 65 → IsPlan t a (jobs_of (take (4 * p.len) p.bytes)) r → IsPlan t a (jobs_in p) r
  unfolding jobs_in
  shorter_plan p r l =
      let e : p.len ≡ min p.len 65 = omega arith in
      of_same_jobs r (ap (λ (n : ℕ). jobs_of (take (4 * n) p.bytes)) e)

  pub longer_plan : (p : Packed) (r : Plan) → 65 ≤ p.len → length p.bytes ≡ 260 → IsPlan t a (jobs_of p.bytes) r
      → IsPlan t a (jobs_in p) r
  unfolding jobs_in
  longer_plan p r l size =
      let whole = take_all (4 * min p.len 65) p.bytes (omega (arith, size)) in
      of_same_jobs r (ap jobs_of (sym whole))
