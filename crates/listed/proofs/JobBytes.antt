-- Jobs in bytes, four for each: the job at a place has the four bytes there, whole jobs are a fourth of the bytes, and bytes that are cut
-- short end in no job.
use Prim.Native.Nat.{ℕ, zero, suc, ◌+◌, ◌*◌, ◌<◌}
use native.Mathlib.Omega.{arith}
use mathlib.Core.Path.{◌≡◌, refl, ap}
use mathlib.Core.List.{List, [], ◌∷◌}
use lib.ListN.{length, get_or}
use Rattle.policy.specs.declared.Job.{Job}
use Rattle.policy.specs.Plans.{jobs_of}
use Rattle.listed.specs.Pairs.{job_at}

-- the job whose four bytes stand from a place on
abbrev pub four_at : List ℕ → ℕ → Job
four_at bytes at =
    record {
      action = get_or bytes at 0;
      person = get_or bytes (at + 1) 0;
      target = get_or bytes (at + 2) 0;
      step = get_or bytes (at + 3) 0;
    }

further : (n k : ℕ) → 4 * suc n + k ≡ suc (suc (suc (suc (4 * n + k))))
further n k = omega arith

further_on : (n : ℕ) → 4 * suc n ≡ suc (suc (suc (suc (4 * n))))
further_on n = omega arith

pub job_at_lem : (n : ℕ) (bytes : List ℕ) → 4 * n + 3 < length bytes → job_at bytes n ≡ four_at bytes (4 * n)
unfolding jobs_of
job_at_lem n [] l = let z : ⊥ = omega arith in absurd z
job_at_lem n (a ∷ []) l = let z : ⊥ = omega arith in absurd z
job_at_lem n (a ∷ b ∷ []) l = let z : ⊥ = omega arith in absurd z
job_at_lem n (a ∷ b ∷ c ∷ []) l = let z : ⊥ = omega arith in absurd z
job_at_lem zero (a ∷ b ∷ c ∷ d ∷ bytes) l = refl
job_at_lem (suc n) (a ∷ b ∷ c ∷ d ∷ bytes) l =
    rw (further n 1, further n 2, further n 3, further_on n) (job_at_lem n bytes (omega arith))

pub jobs_length : (n : ℕ) (bytes : List ℕ) → length bytes ≡ 4 * n → length (jobs_of bytes) ≡ n
unfolding jobs_of
jobs_length zero [] e = refl
jobs_length (suc n) [] e = let z : ⊥ = omega arith in absurd z
jobs_length n (a ∷ []) e = let z : ⊥ = omega arith in absurd z
jobs_length n (a ∷ b ∷ []) e = let z : ⊥ = omega arith in absurd z
jobs_length n (a ∷ b ∷ c ∷ []) e = let z : ⊥ = omega arith in absurd z
jobs_length zero (a ∷ b ∷ c ∷ d ∷ bytes) e = let z : ⊥ = omega arith in absurd z
jobs_length (suc n) (a ∷ b ∷ c ∷ d ∷ bytes) e = ap suc (jobs_length n bytes (omega arith))
