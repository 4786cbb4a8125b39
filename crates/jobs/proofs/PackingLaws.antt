-- What one more job does to the packed bytes, which is what a turn of the packing loop rests on: the job's four bytes stand right after
-- those of the jobs before it, and after 65 jobs nothing changes.
use Prim.Native.Nat.{ℕ, suc, ◌+◌, ◌*◌, ◌-◌, ◌<◌, ◌≤◌}
use native.Mathlib.Omega.{arith}
use mathlib.Core.Path.{◌≡◌, refl, sym, ap, ◌∙◌}
use mathlib.Core.Logic.{⊎_elim}
use mathlib.Core.Bool.{Bool, cond}
use mathlib.Core.List.{List, [], ◌∷◌, ◌++◌, append_assoc}
use lib.Dec.{ltb}
use lib.ListN.{length, set, take, replicate, get_or, length-append}
use borrow.Rule.Slice.PartMut.{put_mid}
use lib.Seq.{take_all, take-length, take-take, take-suc, length-take-le, paste, paste-zero, paste-suc}
use Rattle.std.proofs.lemmas.Slice.{put_mid-paste}
use borrow.Author.Tests.{lt-ltb, le-ltb, ltb-true, ltb-false}
use Rattle.bits.proofs.Booleans.{decide}
use Rattle.policy.specs.declared.Job.{Job}
use Rattle.policy.specs.Plans.{no_job}
use Rattle.jobs.specs.declared.Packed.{Packed}
use Rattle.policy.specs.Planning.{job_bytes}
use Rattle.jobs.specs.Packing.{packed_bytes, packed_jobs, none_stored, written, stored}

-- ---- one job stored

pub stored_in : (p : Packed) (i : ℕ) (j : Job) → i < 65 → written p i j ≡ stored p i j
unfolding stored
stored_in p i j l = sym (ap (λ (z : Bool). cond z (written p i j) p) (lt-ltb i 65 l))

pub stored_past : (p : Packed) (i : ℕ) (j : Job) → 65 ≤ i → p ≡ stored p i j
unfolding stored
stored_past p i j l = sym (ap (λ (z : Bool). cond z (written p i j) p) (le-ltb i 65 l))

-- four bytes that take the place of four are four stores
four_stored : (bytes : List ℕ) (at a b c d : ℕ) → at + 4 ≤ length bytes
    → put_mid at (at + 4 - at) bytes (a ∷ b ∷ c ∷ d ∷ []) ≡ set (set (set (set bytes at a) (at + 1) b) (at + 2) c) (at + 3) d
four_stored bytes at a b c d room =
    let four : List ℕ = a ∷ b ∷ c ∷ d ∷ [] in
    let here : at ≡ at + 0 = omega arith in
    let one : set bytes at a ≡ paste bytes at four 1 =
    ap (λ (n : ℕ). set bytes n a) here ∙ ap (λ (l : List ℕ). set l (at + 0) a) (paste-zero bytes at four)
    ∙ paste-suc bytes at four 0 0 (omega arith) (omega arith) in
    let two : set (set bytes at a) (at + 1) b ≡ paste bytes at four 2 =
    ap (λ (l : List ℕ). set l (at + 1) b) one ∙ paste-suc bytes at four 1 0 (omega arith) (omega arith) in
    let three : set (set (set bytes at a) (at + 1) b) (at + 2) c ≡ paste bytes at four 3 =
    ap (λ (l : List ℕ). set l (at + 2) c) two ∙ paste-suc bytes at four 2 0 (omega arith) (omega arith) in
    put_mid-paste at (at + 4 - at) bytes four four 4 refl (omega arith) refl
    ∙ sym (ap (λ (l : List ℕ). set l (at + 3) d) three ∙ paste-suc bytes at four 3 0 (omega arith) (omega arith))

pub four_written : (p : Packed) (i : ℕ) (j : Job) → 4 * i + 4 ≤ length p.bytes
    → record {
      len = p.len;
      bytes = put_mid (4 * i) (4 * i + 4 - 4 * i) p.bytes (j.action ∷ j.person ∷ j.target ∷ j.step ∷ []);
    }
    ≡ written p i j
unfolding written
four_written p i j room =
    ap (λ (bytes : List ℕ). record { len = p.len; bytes = bytes })
    (four_stored p.bytes (4 * i) j.action j.person j.target j.step room)

-- ---- the bytes of jobs

pub bytes_length : (jobs : List Job) → length (job_bytes jobs) ≡ 4 * length jobs
bytes_length [] = refl
bytes_length (j ∷ jobs) = let h = bytes_length jobs in omega (arith, h)

-- one job more
bytes_more : (jobs : List Job) (j : Job) → job_bytes (jobs ++ j ∷ []) ≡ job_bytes jobs ++ j.action ∷ j.person ∷ j.target ∷ j.step ∷ []
bytes_more [] j = refl
bytes_more (x ∷ jobs) j = ap (λ (r : List ℕ). x.action ∷ x.person ∷ x.target ∷ x.step ∷ r) (bytes_more jobs j)

-- of at most 65 jobs the bytes of each are packed
pub packed_few : (jobs : List Job) → length jobs ≤ 65 → packed_bytes jobs ≡ job_bytes jobs ++ replicate (260 - 4 * length jobs) 0
unfolding packed_bytes
packed_few jobs h = ap (λ (r : List Job). job_bytes r ++ replicate (260 - 4 * length r) 0) (take_all 65 jobs h)

-- 65 jobs or more of a list have the bytes of the whole list
pub packed_many : (jobs : List Job) (i : ℕ) → 65 ≤ i → packed_bytes (take i jobs) ≡ packed_bytes jobs
unfolding packed_bytes
packed_many jobs i h = ap (λ (r : List Job). job_bytes r ++ replicate (260 - 4 * length r) 0) (take-take 65 i jobs h)

-- ---- a job's bytes, stored at four places

abbrev four : List ℕ → ℕ → ℕ → ℕ → ℕ → Job → List ℕ
four bytes at₀ at₁ at₂ at₃ j = set (set (set (set bytes at₀ j.action) at₁ j.person) at₂ j.target) at₃ j.step

-- in the first four of the zeros after other bytes
four_after : (bytes : List ℕ) (m : ℕ) (j : Job)
    → four (bytes ++ replicate (suc (suc (suc (suc m)))) 0) (length bytes) (suc (length bytes)) (suc (suc (length bytes)))
    (suc (suc (suc (length bytes)))) j
    ≡ bytes ++ j.action ∷ j.person ∷ j.target ∷ j.step ∷ replicate m 0
four_after [] m j = refl
four_after (b ∷ bytes) m j = ap (λ (r : List ℕ). b ∷ r) (four_after bytes m j)

four_at_lem : (bytes : List ℕ) (k r m : ℕ) (j : Job) → length bytes ≡ k → r ≡ suc (suc (suc (suc m)))
    → four (bytes ++ replicate r 0) k (k + 1) (k + 2) (k + 3) j ≡ bytes ++ j.action ∷ j.person ∷ j.target ∷ j.step ∷ replicate m 0
four_at_lem bytes k r m j h e =
    let e₁ : k + 1 ≡ suc (length bytes) = omega (arith, h) in
    let e₂ : k + 2 ≡ suc (suc (length bytes)) = omega (arith, h) in
    let e₃ : k + 3 ≡ suc (suc (suc (length bytes))) = omega (arith, h) in
    rw (e, e₁, e₂, e₃, sym h) (four_after bytes m j)

-- the bytes of i jobs, with another job's stored after them
packed_more : (jobs : List Job) (i : ℕ) (j : Job) → length jobs ≡ i → i < 65
    → four (packed_bytes jobs) (4 * i) (4 * i + 1) (4 * i + 2) (4 * i + 3) j ≡ packed_bytes (jobs ++ j ∷ [])
packed_more jobs i j n l =
    let f = bytes_length jobs in
    let len : length (jobs ++ j ∷ []) ≡ suc i = length-append jobs (j ∷ []) ∙ omega (arith, n) in
    let left = 260 - 4 * length (jobs ++ j ∷ []) in
    ap (λ (bytes : List ℕ). four bytes (4 * i) (4 * i + 1) (4 * i + 2) (4 * i + 3) j) (packed_few jobs (omega (arith, n)))
    ∙ four_at_lem (job_bytes jobs) (4 * i) (260 - 4 * length jobs) left j (omega (arith, f, n)) (omega (arith, n, len))
    ∙ sym (append_assoc (job_bytes jobs) (j.action ∷ j.person ∷ j.target ∷ j.step ∷ []) (replicate left 0))
    ∙ ap (λ (bytes : List ℕ). bytes ++ replicate left 0) (sym (bytes_more jobs j))
    ∙ sym (packed_few (jobs ++ j ∷ []) (omega (arith, len)))

-- ---- the first jobs of a list

-- the first i jobs packed, with the length of the whole list
abbrev pub up_to : List Job → ℕ → Packed
up_to jobs i = record { len = length jobs; bytes = packed_bytes (take i jobs) }

pub none : (jobs : List Job) → none_stored (length jobs) ≡ up_to jobs 0
unfolding none_stored packed_bytes
none jobs = refl

pub all : (jobs : List Job) → up_to jobs (length jobs) ≡ packed_jobs jobs
unfolding packed_jobs
all jobs = ap (λ (r : List Job). record { len = length jobs; bytes = packed_bytes r }) (take-length jobs)

module _ (jobs : List Job) (i : ℕ) (l : i < length jobs) where
  more_in : i < 65 → stored (up_to jobs i) i (get_or jobs i no_job) ≡ up_to jobs (suc i)
  unfolding written
  more_in h =
      sym (stored_in (up_to jobs i) i (get_or jobs i no_job) h)
      ∙ ap (λ (bytes : List ℕ). record { len = length jobs; bytes = bytes })
      (packed_more (take i jobs) i (get_or jobs i no_job) (length-take-le i jobs (omega arith)) h
      ∙ ap packed_bytes (sym (take-suc jobs i no_job l)))

  more_past : 65 ≤ i → stored (up_to jobs i) i (get_or jobs i no_job) ≡ up_to jobs (suc i)
  more_past h =
      sym (stored_past (up_to jobs i) i (get_or jobs i no_job) h)
      ∙ ap (λ (bytes : List ℕ). record { len = length jobs; bytes = bytes })
      (packed_many jobs i h ∙ sym (packed_many jobs (suc i) (omega arith)))

  pub more : stored (up_to jobs i) i (get_or jobs i no_job) ≡ up_to jobs (i + 1)
  more =
      let e : suc i ≡ i + 1 = omega arith in
      ⊎_elim (λ t. more_in (ltb-true i 65 t)) (λ f. more_past (ltb-false i 65 f)) (decide (ltb i 65)) ∙ ap (up_to jobs) e
