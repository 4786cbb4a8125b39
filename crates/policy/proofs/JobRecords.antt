-- The record of a job is that of the request that the job asks for, bytes hold the jobs whose bytes they are, and a job is refused by plan
-- exactly where it is a start, or no request, or one with a party that is not declared. By the four kinds of requests, job by job.
use Prim.Native.Nat.{ℕ, ◌<◌}
use native.Mathlib.Omega.{arith}
use mathlib.Core.Path.{◌≡◌, refl, sym, ap, ◌∙◌}
use mathlib.Core.Logic.{inl, inr, ⊎_elim, ◌≢◌}
use mathlib.Core.Bool.{false≢true}
use mathlib.Core.List.Memᴰ
use mathlib.Core.List.{List, [], ◌∷◌, ◌++◌, append-nil, Memᴰ}
use mathlib.Core.Option.{Option, none, some}
use lib.Dec.{eqb}
use lib.ListN.{length}
use borrow.Author.Tests.{eqb-true, eqb-false, eq-eqb, ne_eqb}
use Rattle.bits.proofs.Booleans.{decide}
use Rattle.policy.specs.declared.Tables.{Tables}
use Rattle.policy.specs.declared.Job.{Job}
use Rattle.policy.specs.Request.{Request, read, write, start, step, request_of}
use Rattle.policy.specs.Rules.{declared}
use Rattle.policy.specs.Causes.{record_bytes}
use Rattle.policy.specs.Plans.{no_job, jobs_of, job_record, no_start, plannable, all_plannable}
use Rattle.policy.specs.Planning.{AsksFor, job_bytes, NotPlanned}
use Rattle.policy.proofs.Answers.{Refuses, refuses_not, refuses_either}
use Rattle.policy.proofs.Fronts.{front_request, request_front, parties_declared}

-- ---- the request that a job asks for

short_record : (j : Job) → j.action ≢ 19 → job_record j ≡ j.action ∷ j.person ∷ j.target ∷ []
unfolding job_record
short_record j n = rw (ne_eqb j.action 19 n)

long_record : (j : Job) → j.action ≡ 19 → job_record j ≡ 19 ∷ j.person ∷ j.step ∷ j.target ∷ []
unfolding job_record
long_record j e = rw (eq-eqb j.action 19 e) (ap (λ (k : ℕ). k ∷ j.person ∷ j.step ∷ j.target ∷ []) e)

pub asked_record : (j : Job) (r : Request) → AsksFor j r → job_record j ≡ record_bytes r
asked_record j (read s o) (a, p, t) = let e = short_record j (λ f. let z : ⊥ = omega arith in z) in cc
asked_record j (write s o) (a, p, t) = let e = short_record j (λ f. let z : ⊥ = omega arith in z) in cc
asked_record j (start s u) (a, p, t) = let e = short_record j (λ f. let z : ⊥ = omega arith in z) in cc
asked_record j (step s p o) (a, s', p', o') = let e = long_record j a in cc

asked_request : (j : Job) (r : Request) → AsksFor j r → request_of (job_record j) ≡ some r
asked_request j r w = front_request r [] (asked_record j r w ∙ sym (append-nil (record_bytes r)))

asked_once : (j : Job) (q r : Request) → AsksFor j q → request_of (job_record j) ≡ some r → q ≡ r
asked_once j q r w e = let f = asked_request j q w in cc

-- the job asks for the request that its record holds
front_asks : (j : Job) (r : Request) → request_of (job_record j) ≡ some r → AsksFor j r
front_asks j r e =
    let (rest, f) = request_front (job_record j) r e in
    ⊎_elim (λ long. of_long r rest (eqb-true j.action 19 long) (sym (long_record j (eqb-true j.action 19 long)) ∙ f))
    (λ short. of_short r rest (eqb-false j.action 19 short) (sym (short_record j (eqb-false j.action 19 short)) ∙ f))
    (decide (eqb j.action 19))
  where
    of_long : (r : Request) (rest : List ℕ) → j.action ≡ 19
        → 19 ∷ j.person ∷ j.step ∷ j.target ∷ [] ≡ record_bytes r ++ rest → AsksFor j r
    of_long (read s o) rest a f = let z : ◌≡◌ {A = ℕ} 19 16 = cc in absurd (omega arith)
    of_long (write s o) rest a f = let z : ◌≡◌ {A = ℕ} 19 17 = cc in absurd (omega arith)
    of_long (start s u) rest a f = let z : ◌≡◌ {A = ℕ} 19 18 = cc in absurd (omega arith)
    of_long (step s p o) rest a f = (a, cc, cc, cc)

    of_short : (r : Request) (rest : List ℕ) → j.action ≢ 19
        → j.action ∷ j.person ∷ j.target ∷ [] ≡ record_bytes r ++ rest → AsksFor j r
    of_short (read s o) rest a f = (cc, cc, cc)
    of_short (write s o) rest a f = (cc, cc, cc)
    of_short (start s u) rest a f = (cc, cc, cc)
    of_short (step s p o) rest a f = let z : j.action ≡ 19 = cc in absurd (a z)

-- ---- the jobs that bytes hold

pub bytes_jobs : (jobs : List Job) → jobs_of (job_bytes jobs) ≡ jobs
unfolding jobs_of
bytes_jobs [] = refl
bytes_jobs (j ∷ jobs) = ap (λ (l : List Job). j ∷ l) (bytes_jobs jobs)

pub bytes_cut : (jobs : List Job) (b : ℕ) (rest : List ℕ) → length rest < 3 → jobs_of (job_bytes jobs ++ b ∷ rest) ≡ jobs ++ no_job ∷ []
unfolding jobs_of
bytes_cut [] b [] h = refl
bytes_cut [] b (c ∷ []) h = refl
bytes_cut [] b (c ∷ d ∷ []) h = refl
bytes_cut [] b (c ∷ d ∷ e ∷ rest) h = let z : ⊥ = omega arith in absurd z
bytes_cut (j ∷ jobs) b rest h = ap (λ (l : List Job). j ∷ l) (bytes_cut jobs b rest h)

pub no_job_asks : (r : Request) → AsksFor no_job r → ⊥
no_job_asks (read s o) w = let z : ⊥ = omega arith in z
no_job_asks (write s o) w = let z : ⊥ = omega arith in z
no_job_asks (start s u) w = let z : ⊥ = omega arith in z
no_job_asks (step s p o) w = let z : ⊥ = omega arith in z

-- ---- the jobs that are refused

module _ (t : Tables) where
  -- a request that is no start is refused exactly where a party is not declared
  refused_party : (j : Job) (r : Request) → j.action ≢ 18 → request_of (job_record j) ≡ some r → Refuses (declared t r) (NotPlanned t j)
  refused_party j r other e =
      let parties = refuses_not (parties_declared t r) in
      let asks = front_asks j r e in (
        λ f. inr (inr (r, asks, parties.0 f)),
        ⊎_elim (λ a. absurd (other a))
            (⊎_elim (λ nothing. absurd (nothing r asks))
            (λ w.
            let (q, asked, undeclared) = w in
            let same : q ≡ r = asked_once j q r asked e in
            parties.1 (rw same at undeclared))),
      )

  refused_job : (j : Job) → Refuses (plannable t (request_of (job_record j))) (NotPlanned t j)
  unfolding plannable no_start
  refused_job j = go (request_of (job_record j)) refl
    where
      go : (o : Option Request) → request_of (job_record j) ≡ o → Refuses (plannable t (request_of (job_record j))) (NotPlanned t j)
      go none e = rw e (λ f. inr (inl (λ r w. let z : ◌≡◌ {A = ℕ} 0 1 = cc (e, asked_request j r w) in absurd (omega arith))), λ w. refl)
      go (some (read s o)) e = rw e (refused_party j (read s o) (λ a. let w = front_asks j _ e in let z : ⊥ = omega arith in z) e)
      go (some (write s o)) e = rw e (refused_party j (write s o) (λ a. let w = front_asks j _ e in let z : ⊥ = omega arith in z) e)
      go (some (start s u)) e = rw e (λ f. inl (front_asks j (start s u) e).0, λ w. refl)
      go (some (step s p o)) e = rw e (refused_party j (step s p o) (λ a. let w = front_asks j _ e in let z : ⊥ = omega arith in z) e)

  pub refused_jobs : (jobs : List Job) → Refuses (all_plannable t jobs) ((j : Job) × Memᴰ j jobs × NotPlanned t j)
  unfolding all_plannable
  refused_jobs [] = (λ f. absurd (false≢true (sym f)), λ w. absurd (Memᴰ.not-nil w.1))
  refused_jobs (j ∷ jobs) =
      let here = refused_job j in
      let more = refused_jobs jobs in
      let either = refuses_either here more in (
        λ f. ⊎_elim (λ w. (j, Memᴰ.head refl, w)) (λ w. (w.0, Memᴰ.tail w.1, w.2)) (either.0 f),
        λ w.
            let (q, m, refused) = w in
            either.1 (⊎_elim (λ e. inl (rw e at refused)) (λ n. inr (q, n, refused)) (Memᴰ.cases_cons m)),
      )
