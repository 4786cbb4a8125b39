-- The bytes of a body that starts at a position, as the code reads them from the book and the definition from the body.
use Prim.Native.Nat.{ℕ, ◌+◌}
use native.Mathlib.Nat.{add-zero}
use mathlib.Core.List.{List}
use mathlib.Core.Path.{◌≡◌, ap, ◌∙◌}
use lib.ListN.{get_or, take, drop}
use lib.Seq.{get_or-drop, drop-drop}
use Rattle.policy.specs.Rulebook.{little_endian}

module _ (s : List ℕ) (at : ℕ) where
  pub first_byte : get_or (drop at s) 0 0 ≡ get_or s at 0
  first_byte = get_or-drop at s 0 0 ∙ ap (λ (i : ℕ). get_or s i 0) (add-zero at)

  pub number_from : (n i : ℕ) → little_endian (take n (drop i (drop at s))) ≡ little_endian (take n (drop (at + i) s))
  number_from n i = ap (λ (l : List ℕ). little_endian (take n l)) (drop-drop i at s)
