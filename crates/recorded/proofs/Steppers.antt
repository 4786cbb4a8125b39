-- The persons who stepped on a folder, one step after another: the word at a step's place in a history is the set of the persons who
-- applied it, and the union of the words of the steps below p is the set of those who applied one of these.
use Prim.Native.Nat.{ℕ, ◌+◌, ◌*◌, ◌<◌}
use native.Mathlib.Omega.{arith}
use mathlib.Core.Path.{◌≡◌, ap, ◌∙◌}
use mathlib.Core.List.{List}
use lib.Bits.{bit_or}
use lib.ListN.{get_or}
use Rattle.bits.specs.Bits.{mask_below}
use Rattle.bits.specs.Bounded.{any_below}
use Rattle.bits.proofs.Masks.{mask_ext}
use Rattle.policy.specs.History.{bit_at}
use Rattle.policy.specs.Request.{index}
use Rattle.history.specs.Words.{word_at}
use Rattle.history.proofs.WordLaws.{word_mask}
use Rattle.recorded.specs.Recorded.{step_at}
use Rattle.recorded.proofs.Joined.{join_none, join_more}

module _ (h : List ℕ) (o : ℕ) where
  -- the persons who applied one of the steps below p
  unfoldable pub steppers_below : ℕ → ℕ
  steppers_below p = mask_below 64 (λ s. any_below p (step_at h s o))

  -- the persons who applied step p
  pub step_word : ((i : ℕ) → get_or h i 0 < 256) → (p : ℕ) → word_at h (2560 + 128 * o + 8 * p) ≡ mask_below 64 (λ s. step_at h s o p)
  unfolding step_at index
  step_word small p =
      word_mask h (2560 + 128 * o + 8 * p) small
      ∙ mask_ext 64 _ _ (λ s l.
      let same : 8 * (2560 + 128 * o + 8 * p) + s ≡ 20480 + 64 * (16 * o + p) + s = omega arith in ap (bit_at h) same)

  pub no_steppers : 0 ≡ steppers_below 0
  unfolding steppers_below
  no_steppers = join_none 64 (λ s. step_at h s o)

  -- one step more
  pub more_steppers : ((i : ℕ) → get_or h i 0 < 256) → (p : ℕ) {set word : ℕ} → set ≡ steppers_below p
      → word ≡ word_at h (2560 + 128 * o + 8 * p) → bit_or set word ≡ steppers_below (p + 1)
  unfolding steppers_below
  more_steppers small p before found = join_more 64 (λ s. step_at h s o) p before (found ∙ step_word small p)
