-- The words of persons, turned round, are words of folders: the bit of person s in the word of a folder is the bit of the folder in the
-- word of person s, which stands in the history at the place of that person and folder.
use Prim.Native.Nat.{ℕ, ◌+◌, ◌*◌, ◌/◌, ◌%◌, ◌<◌}
use native.Mathlib.Omega.{arith}
use mathlib.Core.Path.{◌≡◌, ap, ap₂, ◌∙◌}
use mathlib.Core.Bool.{Bool, ◌&&◌, ◌||◌, or_comm}
use mathlib.Core.List.{List}
use lib.Bits.{bit_or}
use lib.Dec.{eqb}
use lib.ListN.{get_or}
use Rattle.bits.specs.Bits.{bit, mask_below}
use Rattle.bits.proofs.Bounds.{any_ext}
use Rattle.bits.proofs.Masks.{bit_mask_below, mask_ext, mask_or}
use Rattle.policy.specs.History.{bit_at}
use Rattle.history.specs.Words.{word_at}
use Rattle.history.proofs.WordLaws.{word_bit}
use Rattle.recorded.specs.Gathering.{FirstAre}
use Rattle.recorded.specs.Recorded.{read_at, written_at, stepped_at, touched_at}
use Rattle.recorded.proofs.Recorded.{word_reads, word_writes}
use Rattle.grouping.specs.Adding.{Added, grouped, recorded_in, touched_in}
use Rattle.grouping.specs.Turning.{turned_row}
use Rattle.grouping.proofs.AddingLaws.{added_ext, both_halves}

module _ (h : List ℕ) (small : (i : ℕ) → get_or h i 0 < 256) where
  pub folder_words : (first : ℕ) {rows words : List ℕ} → FirstAre 64 64 (λ s. word_at h (first + 16 * s)) rows
      → FirstAre 64 64 (turned_row rows) words → FirstAre 64 64 (λ i. mask_below 64 (λ s. bit_at h (8 * first + 128 * s + i))) words
  unfolding turned_row
  folder_words first found turned =
      record {
        size = turned.size;
        each = λ i l.
            turned.each i l
            ∙ mask_ext 64 _ _ (λ s m.
            let place : 8 * (first + 16 * s) + i ≡ 8 * first + 128 * s + i = omega arith in
            ap (λ (n : ℕ). bit n i) (found.each s m) ∙ word_bit h (first + 16 * s) i small l ∙ ap (bit_at h) place);
      }

  -- the word of one folder: those who read it or wrote in it, and those who stepped on it
  pub touched_word : (first i : ℕ) {rows : List ℕ} {accessed stepped x : ℕ} → first % 8 ≡ 0 → i < 64
      → FirstAre 64 64 (λ s. bit_or (word_at h (first / 8 + 16 * s)) (word_at h (1024 + first / 8 + 16 * s))) rows
      → accessed ≡ turned_row rows i → stepped ≡ mask_below 64 (λ s. stepped_at h s (first + i)) → x ≡ bit_or accessed stepped
      → x ≡ mask_below 64 (λ s. touched_at h s (first + i))
  unfolding turned_row touched_at
  touched_word first i whole l found turned steps e =
      let access : ℕ → Bool = λ s. read_at h s (first + i) || written_at h s (first + i) in
      let here = turned ∙ mask_ext 64 _ access (λ s m.
      let reads : 8 * (first / 8 + 16 * s) ≡ 128 * s + first = omega arith in
      let writes : 8 * (1024 + first / 8 + 16 * s) ≡ 8192 + 128 * s + first = omega arith in
      ap (λ (n : ℕ). bit n i)
      (found.each s m ∙ ap₂ bit_or (word_reads h s first _ small reads) (word_writes h s first _ small writes) ∙ mask_or 64 _ _)
      ∙ bit_mask_below 64 _ i l ∙ or_comm (written_at h s (first + i)) (read_at h s (first + i))) in
      e ∙ ap₂ bit_or here steps ∙ mask_or 64 access _
      ∙ mask_ext 64 _ _ (λ s m. or_comm (stepped_at h s (first + i)) (access s))

-- ---- both halves

pub recorded_in_lem : (h groups low high : List ℕ) (first above : ℕ) {a b c : List ℕ}
    → FirstAre 64 64 (λ i. mask_below 64 (λ s. bit_at h (8 * first + 128 * s + i))) low
    → FirstAre 64 64 (λ i. mask_below 64 (λ s. bit_at h (8 * (first + 8) + 128 * s + i))) high
    → Added (grouped groups 0 above low 64) a b → Added (grouped groups 64 above high 64) b c
    → Added (recorded_in groups above h (8 * first)) a c
unfolding recorded_in
recorded_in_lem h groups low high first above here there one two =
    both_halves groups above low high (λ s o. bit_at h (8 * first + 128 * s + o)) one two
    (λ i s l m. ap (λ (n : ℕ). bit n s) (here.each i l) ∙ bit_mask_below 64 _ s m)
    (λ i s l m.
    let place : 8 * (first + 8) + 128 * s + i ≡ 8 * first + 128 * s + (64 + i) = omega arith in
    ap (λ (n : ℕ). bit n s) (there.each i l) ∙ bit_mask_below 64 _ s m ∙ ap (bit_at h) place)

pub touched_in_lem : (h groups low high : List ℕ) {a b c : List ℕ}
    → FirstAre 64 64 (λ i. mask_below 64 (λ s. touched_at h s (0 + i))) low
    → FirstAre 64 64 (λ i. mask_below 64 (λ s. touched_at h s (64 + i))) high
    → Added (grouped groups 0 0 low 64) a b → Added (grouped groups 64 0 high 64) b c → Added (touched_in groups h) a c
unfolding touched_in
touched_in_lem h groups low high here there one two =
    added_ext
    (both_halves groups 0 low high (λ s o. touched_at h s o) one two
    (λ i s l m. ap (λ (n : ℕ). bit n s) (here.each i l) ∙ bit_mask_below 64 _ s m ∙ ap (touched_at h s) (omega arith))
    (λ i s l m. ap (λ (n : ℕ). bit n s) (there.each i l) ∙ bit_mask_below 64 _ s m))
    (λ x s l.
    any_ext 128 _ _ (λ o m.
    let own : 0 + get_or groups o 0 ≡ get_or groups o 0 = omega arith in ap (λ (k : ℕ). eqb k x && touched_at h s o) own))
