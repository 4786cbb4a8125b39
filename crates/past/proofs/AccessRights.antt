-- The rights of reads and writes, one folder after another: a folder that was neither read nor written adds none, so that only the others
-- are visited.
use Prim.Native.Nat.{ℕ, ◌+◌, ◌≤◌, ◌<◌}
use mathlib.Core.Path.{◌≡◌, refl, sym, ap₂, ◌∙◌}
use mathlib.Core.Logic.{⊎_elim}
use mathlib.Core.Bool.{Bool, true, false, cond, ◌||◌}
use mathlib.Core.List.{List}
use lib.Bits.{bit_or}
use Rattle.bits.specs.Bits.{mask_below}
use Rattle.bits.proofs.Booleans.{decide}
use Rattle.bits.proofs.Bounds.{any_more}
use Rattle.bits.proofs.Masks.{bit_mask_below, mask_ext, mask_or}
use Rattle.policy.specs.declared.Folder.{Folder}
use Rattle.policy.specs.declared.Tables.{Tables}
use Rattle.policy.specs.Tables.{folder_at, person_declared}
use Rattle.policy.specs.Rulebook.{given}
use Rattle.policy.specs.Request.{Request, read, write, set_of}
use Rattle.policy.specs.Rules.{did}
use Rattle.past.specs.Past.{used_on, rights_below}
use Rattle.recorded.specs.Recorded.{read_at, written_at}
use Rattle.past.specs.Turns.{rights_after, rights_turn}
use Rattle.recorded.specs.Visits.{Leads}
use Rattle.past.proofs.Gathered.{rights_more}
use Rattle.recorded.proofs.Joined.{join_none}
use Rattle.recorded.proofs.Recorded.{entry_below, did_read, did_write}
use Rattle.recorded.proofs.VisitLaws.{visit_start, visit_alike}

pub rights_start : (t : Tables) (H : Request → Bool) (s : ℕ) → 0 ≡ rights_below t H s 0
rights_start t H s = join_none 64 (used_on t H s)

-- a folder that was neither read nor written adds none, visited or not
unvisited : (e : Folder) (wrote was : Bool) (x : ℕ) → cond (wrote || was) (rights_after e was wrote x) x ≡ rights_after e was wrote x
unfolding rights_after
unvisited e true was x = refl
unvisited e false true x = refl
unvisited e false false x = ⊎_elim (λ d. rw d) (λ d. rw d) (decide e.declared)

rights_same : (t : Tables) (H : Request → Bool) (s n : ℕ) → did t H (read s n) ≡ false → did t H (write s n) ≡ false
    → rights_below t H s n ≡ rights_below t H s (n + 1)
unfolding used_on
rights_same t H s n r w =
    mask_ext 64 _ _ (λ x l. sym (any_more n (used_on t H s x) ∙ rw (r, w)))

module _ (t : Tables) (h : List ℕ) (s : ℕ) (person : person_declared t s ≡ true) (g : given t ≡ true) where
  -- a turn of the pass
  after : ℕ → ℕ → ℕ
  after o = rights_after (folder_at t o) (read_at h s o) (written_at h s o)

  one_more : (n : ℕ) → n < 128 → after n (rights_below t (set_of h) s n) ≡ rights_below t (set_of h) s (n + 1)
  unfolding after rights_after
  one_more n l =
      ⊎_elim
      (λ d.
      rw d
      (rights_more t (set_of h) s n {was_read = read_at h s n} {was_written = written_at h s n} ((entry_below t g n l).kind d)
      (did_read t h s person n l ∙ rw d) (did_write t h s person n l ∙ rw d)))
      (λ d. rw d (rights_same t (set_of h) s n (did_read t h s person n l ∙ rw d) (did_write t h s person n l ∙ rw d)))
      (decide (folder_at t n).declared)

  -- the folders of a half that the person read or wrote in lead to the rights up to its last folder
  pub rights_half : (first : ℕ) {reads writes before : ℕ} → first + 64 ≤ 128 → reads ≡ mask_below 64 (λ i. read_at h s (first + i))
      → writes ≡ mask_below 64 (λ i. written_at h s (first + i)) → before ≡ rights_below t (set_of h) s first
      → Leads (rights_turn t first reads writes) (rights_below t (set_of h) s (first + 64)) (bit_or reads writes) before
  unfolding rights_turn after
  rights_half first l r w before =
      visit_alike
      (visit_start after (rights_below t (set_of h) s) (λ o. written_at h s o || read_at h s o)
      (λ n m. unvisited (folder_at t n) (written_at h s n) (read_at h s n) _ ∙ one_more n m) first l (ap₂ bit_or r w ∙ mask_or 64 _ _) before)
      (λ i x m.
      rw (r, w, bit_mask_below 64 (λ i. read_at h s (first + i)) i m, bit_mask_below 64 (λ i. written_at h s (first + i)) i m))
