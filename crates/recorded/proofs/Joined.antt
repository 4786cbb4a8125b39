-- Sets joined one after another: the union of the sets of the first n tests is the set of the numbers of which one of these tests holds,
-- since a joined set has the members of both.
use Prim.Native.Nat.{ℕ, ◌+◌}
use mathlib.Core.Path.{◌≡◌, sym, ap₂, ◌∙◌}
use mathlib.Core.Bool.{Bool}
use lib.Bits.{bit_or}
use Rattle.bits.specs.Bits.{mask_below}
use Rattle.bits.specs.Bounded.{any_below}
use Rattle.bits.proofs.Bounds.{any_start, any_more}
use Rattle.bits.proofs.Masks.{mask_ext, mask_none, mask_or}

module _ (w : ℕ) (test : ℕ → ℕ → Bool) where
  pub join_none : 0 ≡ mask_below w (λ k. any_below 0 (test k))
  join_none = sym (mask_none w _ (λ k l. any_start (test k)))

  -- one set more
  pub join_more : (n : ℕ) {before here : ℕ} → before ≡ mask_below w (λ k. any_below n (test k)) → here ≡ mask_below w (λ k. test k n)
      → bit_or before here ≡ mask_below w (λ k. any_below (n + 1) (test k))
  join_more n joined set =
      ap₂ bit_or joined set ∙ mask_or w (λ k. any_below n (test k)) (λ k. test k n)
      ∙ mask_ext w _ _ (λ k l. sym (any_more n (test k)))
