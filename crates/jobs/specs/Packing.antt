-- A list of jobs as bytes: four for each of its first 65 jobs, then zeros; and the jobs that such bytes hold.
use Rattle.std.specs.Prelude.{ℕ, ◌+◌, ◌*◌, ◌-◌, min, cond, List, ◌++◌, ltb, length, set, take, replicate}
use Rattle.policy.specs.declared.Job.{Job}
use Rattle.policy.specs.Plans.{jobs_of}
use Rattle.policy.specs.Planning.{job_bytes}
use Rattle.jobs.specs.declared.Packed.{Packed}

-- 260 bytes: those of the first 65 jobs, then zeros
unfoldable pub packed_bytes : List Job → List ℕ
packed_bytes jobs = job_bytes (take 65 jobs) ++ replicate (260 - 4 * length (take 65 jobs)) 0

-- a list of jobs, packed
unfoldable pub packed_jobs : List Job → Packed
packed_jobs jobs = record { len = length jobs; bytes = packed_bytes jobs }

-- the jobs that are packed: those of a list of at most 65, or its first 65
unfoldable pub jobs_in : Packed → List Job
jobs_in p = jobs_of (take (4 * min p.len 65) p.bytes)

-- no job stored yet, of a list of this length
unfoldable pub none_stored : ℕ → Packed
none_stored n = record { len = n; bytes = replicate 260 0 }

-- a job's bytes in the four places of its place in the list
unfoldable pub written : Packed → ℕ → Job → Packed
written p i j =
    record {
      len = p.len;
      bytes =
          set (set (set (set p.bytes (4 * i) j.action) (4 * i + 1) j.person) (4 * i + 2) j.target) (4 * i + 3) j.step;
    }

-- the same for the first 65 places of the list, and no change for those after them
unfoldable pub stored : Packed → ℕ → Job → Packed
stored p i j = cond (ltb i 65) (written p i j) p
