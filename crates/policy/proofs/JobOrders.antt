-- The places of a list of jobs, from 0, are its numbers below its length, without repeats; putting the jobs at a reordering of the places
-- is a reordering of the jobs, and each place stands once in it. By induction on the list, and over how the reordering is made.
use Prim.Native.Nat.{ℕ, zero, suc, ◌+◌, ◌≤◌, ◌<◌}
use native.Mathlib.Nat.{ℕ_set, le_of_suc-le-suc, not-suc-le-zero, add-zero, add-suc, suc-add, zero-add}
use native.Mathlib.Omega.{arith}
use native.Mathlib.Bridge.{le_prop}
use mathlib.Core.Path.{◌≡◌, refl, sym, ap, ◌∙◌, subst}
use mathlib.Core.Logic.{⊎_elim, ∥∥₁_elim, ∥∥₁_map}
use mathlib.Core.List.Memᴰ
use mathlib.Core.List.{
  List,
  [],
  ◌∷◌,
  Perm,
  Permᴰ,
  Memᴰ,
}
use lib.ListN.{length, get_or}
use Rattle.policy.specs.declared.Job.{Job}
use Rattle.policy.specs.Plans.{job_record, records, jobs_at, places_from, places, no_job}
use Rattle.policy.proofs.Permuted.{permuted_in, permuted_length, permuted_stands, NoRepeats, permuted_no_repeats}

-- ---- jobs at places

at_rest : (j : Job) (jobs : List Job) (i n : ℕ) → jobs_at (j ∷ jobs) (places_from (suc i) n) ≡ jobs_at jobs (places_from i n)
unfolding jobs_at places_from
at_rest j jobs i zero = refl
at_rest j jobs i (suc n) = ap (λ (l : List Job). get_or jobs i no_job ∷ l) (at_rest j jobs (suc i) n)

-- the jobs at all the places are the list
pub jobs_placed : (jobs : List Job) → jobs_at jobs (places (length jobs)) ≡ jobs
unfolding jobs_at places_from places
jobs_placed [] = refl
jobs_placed (j ∷ jobs) = ap (λ (l : List Job). j ∷ l) (at_rest j jobs 0 (length jobs) ∙ jobs_placed jobs)

at_permuted : (jobs : List Job) {l m : List ℕ} → Permᴰ l m → Permᴰ (jobs_at jobs l) (jobs_at jobs m)
unfolding jobs_at
at_permuted jobs Permᴰ.nil = Permᴰ.nil
at_permuted jobs (Permᴰ.cons e d) = Permᴰ.cons (ap (λ (i : ℕ). get_or jobs i no_job) e) (at_permuted jobs d)
at_permuted jobs (Permᴰ.swap e f) =
    Permᴰ.swap (ap (λ (i : ℕ). get_or jobs i no_job) e) (ap (λ (i : ℕ). get_or jobs i no_job) f)
at_permuted jobs (Permᴰ.trans d d') = Permᴰ.trans (at_permuted jobs d) (at_permuted jobs d')

pub permuted_jobs : (jobs : List Job) (order : List ℕ) → Perm (places (length jobs)) order → Perm jobs (jobs_at jobs order)
permuted_jobs jobs order p =
    subst (λ (l : List Job). Perm l (jobs_at jobs order)) (jobs_placed jobs) (∥∥₁_map p (at_permuted jobs))

records_permuted : {l m : List Job} → Permᴰ l m → Permᴰ (records l) (records m)
unfolding records
records_permuted Permᴰ.nil = Permᴰ.nil
records_permuted (Permᴰ.cons e d) = Permᴰ.cons (ap job_record e) (records_permuted d)
records_permuted (Permᴰ.swap e f) = Permᴰ.swap (ap job_record e) (ap job_record f)
records_permuted (Permᴰ.trans d d') = Permᴰ.trans (records_permuted d) (records_permuted d')

pub permuted_records : (jobs : List Job) (order : List ℕ) → Perm (places (length jobs)) order
    → Perm (records jobs) (records (jobs_at jobs order))
permuted_records jobs order p = ∥∥₁_map (permuted_jobs jobs order p) records_permuted

-- the records of the jobs at these places, one by one
pub records_count : (jobs : List Job) (order : List ℕ) → length (records (jobs_at jobs order)) ≡ length order
unfolding records jobs_at
records_count jobs [] = refl
records_count jobs (i ∷ order) = ap suc (records_count jobs order)

pub record_at : (jobs : List Job) (order : List ℕ) (k : ℕ) → k < length order
    → get_or (records (jobs_at jobs order)) k [] ≡ job_record (get_or jobs (get_or order k 0) no_job)
unfolding records jobs_at
record_at jobs [] k h = absurd (not-suc-le-zero h)
record_at jobs (i ∷ order) zero h = refl
record_at jobs (i ∷ order) (suc k) h = record_at jobs order k (le_of_suc-le-suc h)

-- ---- the places are the numbers below the length, without repeats

pub places_count : (i n : ℕ) → length (places_from i n) ≡ n
unfolding places_from
places_count i zero = refl
places_count i (suc n) = ap suc (places_count (suc i) n)

-- a reordering of n places has n places
pub count_placed : (n : ℕ) (order : List ℕ) → Perm (places n) order → length order ≡ n
unfolding places
count_placed n order p = sym (permuted_length _ order p) ∙ places_count 0 n

from_between : (i n k : ℕ) → Memᴰ k (places_from i n) → (i ≤ k) × (k < i + n)
unfolding places_from
from_between i zero k m = absurd (Memᴰ.not-nil m)
from_between i (suc n) k m =
    ⊎_elim (λ e. (omega arith, omega arith)) (λ r. let w = from_between (suc i) n k r in (omega arith, omega arith))
    (Memᴰ.cases_cons m)

below_from : (n i k : ℕ) → k < n → Memᴰ (i + k) (places_from i n)
unfolding places_from
below_from zero i k h = absurd (not-suc-le-zero h)
below_from (suc n) i zero h = Memᴰ.head (add-zero i)
below_from (suc n) i (suc k) h = Memᴰ.tail (Memᴰ.cast (add-suc i k ∙ sym (suc-add i k)) (below_from n (suc i) k (le_of_suc-le-suc h)))

from_no_repeats : (i n : ℕ) → NoRepeats (places_from i n)
unfolding places_from
from_no_repeats i zero = tt
from_no_repeats i (suc n) =
    (λ m. let w = from_between (suc i) n i m in let z : ⊥ = omega arith in z, from_no_repeats (suc i) n)

pub permuted_below : (n : ℕ) (order : List ℕ) → Perm (places n) order → (i : ℕ) → Memᴰ i order → i < n
unfolding places
permuted_below n order p i m =
    ∥∥₁_elim p le_prop (λ d. let w = from_between 0 n i (permuted_in d i m) in omega arith)

-- ---- members of a list of numbers, by their places in it

at_member : (l : List ℕ) (k : ℕ) → k < length l → Memᴰ (get_or l k 0) l
at_member [] k h = absurd (not-suc-le-zero h)
at_member (x ∷ l) zero h = Memᴰ.head refl
at_member (x ∷ l) (suc k) h = Memᴰ.tail (at_member l k (le_of_suc-le-suc h))

member_at : (l : List ℕ) (i : ℕ) → Memᴰ i l → (k : ℕ) × (k < length l) × (get_or l k 0 ≡ i)
member_at [] i m = absurd (Memᴰ.not-nil m)
member_at (x ∷ l) i m =
    ⊎_elim (λ e. (0, omega arith, sym e)) (λ r. let (k, h, e) = member_at l i r in (suc k, omega arith, e)) (Memᴰ.cases_cons m)

at_once : (l : List ℕ) → NoRepeats l → (k k' : ℕ) → k < length l → k' < length l → get_or l k 0 ≡ get_or l k' 0 → k ≡ k'
at_once [] w k k' h h' e = absurd (not-suc-le-zero h)
at_once (x ∷ l) w zero zero h h' e = refl
at_once (x ∷ l) w zero (suc k') h h' e = absurd (w.0 (Memᴰ.cast e (at_member l k' (le_of_suc-le-suc h'))))
at_once (x ∷ l) w (suc k) zero h h' e = absurd (w.0 (Memᴰ.cast (sym e) (at_member l k (le_of_suc-le-suc h))))
at_once (x ∷ l) w (suc k) (suc k') h h' e = ap suc (at_once l w.1 k k' (le_of_suc-le-suc h) (le_of_suc-le-suc h') e)

-- ---- each place stands once in a reordering of the places

module _ (n : ℕ) (order : List ℕ) (p : Perm (places n) order) where
  pub order_below : (k : ℕ) → k < length order → get_or order k 0 < n
  order_below k h = permuted_below n order p (get_or order k 0) (at_member order k h)

  pub order_each : (i : ℕ) → i < n → (k : ℕ) × (k < length order) × (get_or order k 0 ≡ i)
  unfolding places
  order_each i h = member_at order i (permuted_stands (places n) order p i (Memᴰ.cast (sym (zero-add i)) (below_from n 0 i h)))

  pub order_once : (k k' : ℕ) → k < length order → k' < length order → get_or order k 0 ≡ get_or order k' 0 → k ≡ k'
  unfolding places
  order_once k k' h h' e =
      ∥∥₁_elim p (ℕ_set k k') (λ d. at_once order (permuted_no_repeats d (from_no_repeats 0 n)) k k' h h' e)
