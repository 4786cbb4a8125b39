-- The two words of a set of folders: each is the set of 64 of them, by their numbers from the first on.
use Prim.Native.Nat.{ℕ, ◌+◌, ◌<◌}
use native.Mathlib.Omega.{arith}
use mathlib.Core.Path.{◌≡◌, sym, ap, ◌∙◌}
use mathlib.Core.Bool.{Bool}
use Rattle.bits.specs.Bits.{mask_below}
use Rattle.bits.proofs.Masks.{mask_ext}
use Rattle.recorded.specs.declared.Folders.{Folders}
use Rattle.recorded.specs.Folders.{folders_of}

module _ (p : ℕ → Bool) where
  from_zero : mask_below 64 (λ i. p (0 + i)) ≡ mask_below 64 p
  from_zero = mask_ext 64 _ p (λ i m. let none : 0 + i ≡ i = omega arith in ap p none)

  pub folders_are : {low high : ℕ} → low ≡ mask_below 64 (λ i. p (0 + i)) → high ≡ mask_below 64 (λ i. p (64 + i))
      → ◌≡◌ {A = Folders} (record { low = low; high = high }) (folders_of p)
  unfolding folders_of
  folders_are l g = rw (l, g, from_zero)

  pub folders_low : {set : Folders} → set ≡ folders_of p → set.low ≡ mask_below 64 (λ i. p (0 + i))
  unfolding folders_of
  folders_low e = ap (λ (f : Folders). f.low) e ∙ sym from_zero

  pub folders_high : {set : Folders} → set ≡ folders_of p → set.high ≡ mask_below 64 (λ i. p (64 + i))
  unfolding folders_of
  folders_high e = ap (λ (f : Folders). f.high) e

pub folders_ext : (p q : ℕ → Bool) → ((o : ℕ) → o < 128 → p o ≡ q o) → folders_of p ≡ folders_of q
unfolding folders_of
folders_ext p q same =
    rw (mask_ext 64 p q (λ i l. same i (omega arith)), mask_ext 64 (λ i. p (64 + i)) (λ i. q (64 + i)) (λ i l. same (64 + i) (omega arith)))
