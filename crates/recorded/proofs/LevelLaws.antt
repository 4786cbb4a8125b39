-- The current level by sets of folders: the level after 128 folders is the level after the first 64 and then after the next 64. The folders
-- read, whose bits are the word at byte 16 * s and the word after it, can come first and then the folders stepped on, since the meet of all
-- is the same.
use Prim.Native.Nat.{ℕ, ◌+◌, ◌*◌, ◌<◌}
use native.Mathlib.Omega.{arith}
use mathlib.Core.Path.{◌≡◌, refl, sym, ap, ap₂, ◌∙◌}
use mathlib.Core.Bool.{Bool, true, false, cond, ◌&&◌, and-or_distrib_left}
use mathlib.Core.List.{List}
use lib.ListN.{get_or}
use Rattle.bits.specs.Bits.{fold_set}
use Rattle.bits.specs.Bounded.{fold_below}
use Rattle.bits.proofs.Masks.{bit_mask_below, mask_ext}
use Rattle.bits.proofs.SetFolds.{fold_ext, fold_two}
use Rattle.level.specs.Levels.{meet_of}
use Rattle.level.proofs.Meets.{met_if, met_either}
use Rattle.policy.specs.declared.Tables.{Tables}
use Rattle.policy.specs.Tables.{person_at, folder_at, person_declared}
use Rattle.policy.specs.History.{bit_at}
use Rattle.policy.specs.Request.{index, set_of}
use Rattle.policy.specs.Rules.{lowered_by, current_level}
use Rattle.history.specs.Words.{word_at}
use Rattle.history.proofs.WordLaws.{word_mask}
use Rattle.recorded.specs.Folders.{folders_of}
use Rattle.recorded.specs.Recorded.{read_at, stepped_at}
use Rattle.recorded.specs.Levels.{level_after, level_over, level_by_set, level_by}
use Rattle.recorded.proofs.Recorded.{did_observe}

-- one test after another, in the other order
nested : (a b : Bool) (x y : ℕ) → cond a (cond b x y) y ≡ cond (b && a) x y
nested true true x y = refl
nested true false x y = refl
nested false true x y = refl
nested false false x y = refl

-- ---- the level over two words

module _ (t : Tables) where
  -- the folders of which p holds, as two words
  pub level_by_set_lem : (p : ℕ → Bool) (level : ℕ) → level_by_set t (folders_of p) level ≡ level_by t p level
  unfolding level_by_set folders_of level_by level_over fold_set
  level_by_set_lem p level =
      let turn : ℕ → ℕ → ℕ = λ o x. cond (p o) (level_after (folder_at t o) x) x in
      fold_ext 64 _ (λ i. turn (64 + i)) _ (λ i x l.
      ap (λ (b : Bool). cond b (level_after (folder_at t (64 + i)) x) x) (bit_mask_below 64 (λ i. p (64 + i)) i l))
      ∙ ap (fold_below 64 (λ i. turn (64 + i)))
      (fold_ext 64 _ turn _ (λ i x l.
      let none : 0 + i ≡ i = omega arith in
      ap₂ (λ (o : ℕ) (b : Bool). cond b (level_after (folder_at t o) x) x) none (bit_mask_below 64 p i l)))
      ∙ sym (fold_two 64 64 turn level)

  -- the levels of the declared folders of which p holds are met
  level_met : (p : ℕ → Bool) (level : ℕ)
      → level_by t p level ≡ fold_below 128 (met_if 12 (λ o. (folder_at t o).level.0) (λ o. (folder_at t o).declared && p o)) level
  unfolding level_by level_after
  level_met p level = fold_ext 128 _ _ level (λ o x l. nested (p o) (folder_at t o).declared _ x)

module _ (t : Tables) (h : List ℕ) (s : ℕ) where
  -- the two words of the reads
  pub level_by_reads_lem : ((i : ℕ) → get_or h i 0 < 256) → (level : ℕ)
      → level_over t (word_at h (16 * s + 8)) 64 64 (level_over t (word_at h (16 * s)) 0 64 level) ≡ level_by t (read_at h s) level
  unfolding level_by_set folders_of read_at index
  level_by_reads_lem small level =
      let low = word_mask h (16 * s) small ∙ mask_ext 64 _ (read_at h s) (λ i l. place (16 * s) i i (omega arith)) in
      let high = word_mask h (16 * s + 8) small
      ∙ mask_ext 64 _ (λ i. read_at h s (64 + i)) (λ i l. place (16 * s + 8) i (64 + i) (omega arith)) in
      rw (low, high) (level_by_set_lem t (read_at h s) level)
    where
      place : (at i o : ℕ) → 8 * at + i ≡ 128 * s + o → bit_at h (8 * at + i) ≡ read_at h s o
      place at i o same = ap (bit_at h) same

  -- the current level, in two parts: the folders read, and then the folders stepped on
  pub level_in_parts : person_declared t s ≡ true
      → level_by t (stepped_at h s) (level_by t (read_at h s) (person_at t s).level.0) ≡ current_level t (set_of h) s
  unfolding current_level lowered_by
  level_in_parts person =
      let levels : ℕ → ℕ = λ o. (folder_at t o).level.0 in
      let known : ℕ → Bool = λ o. (folder_at t o).declared in
      level_met t (stepped_at h s) _
      ∙ ap (fold_below 128 (met_if 12 levels (λ o. known o && stepped_at h s o))) (level_met t (read_at h s) _)
      ∙ met_either 12 levels (λ o. known o && read_at h s o) (λ o. known o && stepped_at h s o) _ 128
      ∙ fold_ext 128 _ _ _ (λ o x l.
      ap (λ (b : Bool). cond b (meet_of 12 x (levels o)) x)
      (sym (and-or_distrib_left (known o) (read_at h s o) (stepped_at h s o)) ∙ sym (did_observe t h s person o l)))
