-- Records written one after another: four bytes are stored, of which the first three or four are the record, and what was written before
-- stands in front of them.
use Prim.Native.Nat.{ℕ, suc, ◌+◌, ◌-◌, ◌*◌, ◌≤◌, ◌<◌}
use native.Mathlib.Omega.{arith}
use mathlib.Core.Path.{◌≡◌, refl, sym, ap, ◌∙◌}
use mathlib.Core.Bool.{Bool, true, false, cond}
use mathlib.Core.List.{List, [], ◌∷◌, ◌++◌, append_assoc, append-nil}
use lib.Dec.{eqb}
use lib.ListN.{length, get_or, take, drop, length-drop}
use lib.Seq.{take-suc, take-add, take-append-le, drop_at, length-take-le}
use borrow.Rule.Slice.PartMut.{put_mid, post_of, same_len_mid}
use Rattle.std.proofs.lemmas.Slice.{take-put_mid_below}
use Rattle.policy.specs.declared.Job.{Job}
use Rattle.policy.specs.Plans.{no_job, job_record, records, jobs_at}
use Rattle.listed.specs.Pairs.{job_at}
use Rattle.listed.specs.Records.{joined, Appended, requests_by, WrittenBy}

-- four bytes stored from a place on, of which the first k are meant
front_stored : (l four : List ℕ) (at k : ℕ) → at + 4 ≤ length l → length four ≡ 4 → k ≤ 4
    → take (at + k) (put_mid at (at + 4 - at) l four) ≡ take at l ++ take k four
front_stored l four at k room size few =
    let after = post_of at (at + 4 - at) l in
    let stored = put_mid at (at + 4 - at) l four in
    let back : drop at stored ≡ four ++ after = drop_at (take at l) (four ++ after) at (length-take-le at l (omega arith)) in
    take-add at k stored
    ∙ ap (λ (r : List ℕ). r ++ take k (drop at stored)) (take-put_mid_below at (at + 4 - at) l four at (omega arith) (omega arith))
    ∙ ap (λ (r : List ℕ). take at l ++ take k r) back
    ∙ ap (λ (r : List ℕ). take at l ++ r) (take-append-le k four after (omega (arith, size)))

pub record_stored : (l : List ℕ) (at : ℕ) {end third : ℕ} (j : Job) → at + 4 ≤ length l → third ≡ cond (eqb j.action 19) j.step j.target
    → end ≡ at + cond (eqb j.action 19) 4 3
    → Appended (job_record j) at l end (put_mid at (at + 4 - at) l (j.action ∷ j.person ∷ third ∷ j.target ∷ []))
unfolding job_record
record_stored l at {end} {third} j room is ends =
    go (eqb j.action 19) is ends
  where
    same : length (put_mid at (at + 4 - at) l (j.action ∷ j.person ∷ third ∷ j.target ∷ [])) ≡ length l
    same =
        let room₁ : at + 4 - at ≤ length (drop at l) = omega (arith, length-drop at l) in
        same_len_mid at (at + 4 - at) l (j.action ∷ j.person ∷ third ∷ j.target ∷ [])
        (omega (arith, length-take-le (at + 4 - at) (drop at l) room₁))

    go : (step : Bool) → third ≡ cond step j.step j.target → end ≡ at + cond step 4 3
        → Appended (cond step (j.action ∷ j.person ∷ j.step ∷ j.target ∷ []) (j.action ∷ j.person ∷ j.target ∷ [])) at l end
        (put_mid at (at + 4 - at) l (j.action ∷ j.person ∷ third ∷ j.target ∷ []))
    go true e f =
        record {
          size = same;
          ends = f;
          front =
              rw f
              (front_stored l (j.action ∷ j.person ∷ third ∷ j.target ∷ []) at 4 room refl (omega arith)
              ∙ ap (λ (x : ℕ). take at l ++ j.action ∷ j.person ∷ x ∷ j.target ∷ []) e);
        }
    go false e f =
        record {
          size = same;
          ends = f;
          front =
              rw f
              (front_stored l (j.action ∷ j.person ∷ third ∷ j.target ∷ []) at 3 room refl (omega arith)
              ∙ ap (λ (x : ℕ). take at l ++ j.action ∷ j.person ∷ x ∷ []) e);
        }

-- ---- records in an order

jobs_more : (jobs : List Job) (order : List ℕ) (i : ℕ) → jobs_at jobs (order ++ i ∷ []) ≡ jobs_at jobs order ++ get_or jobs i no_job ∷ []
unfolding jobs_at
jobs_more jobs [] i = refl
jobs_more jobs (k ∷ order) i = ap (λ (more : List Job). get_or jobs k no_job ∷ more) (jobs_more jobs order i)

joined_more : (jobs : List Job) (j : Job) → joined (records (jobs ++ j ∷ [])) ≡ joined (records jobs) ++ job_record j
unfolding joined records
joined_more [] j = append-nil (job_record j)
joined_more (x ∷ jobs) j =
    ap (λ (more : List ℕ). job_record x ++ more) (joined_more jobs j)
    ∙ sym (append_assoc (job_record x) (joined (records jobs)) (job_record j))

record_short : (j : Job) → length (job_record j) ≤ 4
unfolding job_record
record_short j = go (eqb j.action 19)
  where
    go : (is : Bool)
        → length (cond is (j.action ∷ j.person ∷ j.step ∷ j.target ∷ []) (j.action ∷ j.person ∷ j.target ∷ [])) ≤ 4
    go true = omega arith
    go false = omega arith

-- the records of the jobs at the first k positions stand in front of the place reached
pub record Reached (bytes positions : List ℕ) (k at : ℕ) (room : ℕ) (out : List ℕ) : Type 0 where
  pub size : length out ≡ room
  pub within : at ≤ 4 * k
  pub front : take at out ≡ requests_by bytes positions k

module _ (bytes positions : List ℕ) where
  pub reached_none : (out : List ℕ) → Reached bytes positions 0 0 (length out) out
  unfolding jobs_at records joined
  reached_none out = record { size = refl; within = omega arith; front = refl }

  pub reached_more : (k at room end : ℕ) (out after : List ℕ) → k < length positions → Reached bytes positions k at room out
      → Appended (job_record (job_at bytes (get_or positions k 0))) at out end after → Reached bytes positions (k + 1) end room after
  reached_more k at room end out after l r w =
      let more : k + 1 ≡ suc k = omega arith in
      record {
        size = w.size ∙ r.size;
        within = omega (arith, r.within, w.ends, record_short (job_at bytes (get_or positions k 0)));
        front =
            w.front
            ∙ rw (more, take-suc positions k 0 l, jobs_more, joined_more)
            (ap (λ (f : List ℕ). f ++ job_record (job_at bytes (get_or positions k 0))) r.front);
      }

  pub reached_all : (n at room : ℕ) (out : List ℕ) → n ≤ 64 → Reached bytes positions n at room out
      → WrittenBy bytes positions n room at out
  reached_all n at room out l r = record { size = r.size; within = omega (arith, r.within); front = r.front }
