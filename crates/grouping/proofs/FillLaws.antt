-- An array that `from_fn` fills: the closure is called at 0, at 1 and so on, and stays as it was, so entry i is what it gives at i.
use Prim.Native.Nat.{ℕ, zero, suc, ◌+◌, ◌<◌, ◌≤◌}
use native.Mathlib.Nat.{eq-or-lt_of_le}
use native.Mathlib.Omega.{arith}
use mathlib.Core.Path.{◌≡◌, refl, ◌∙◌}
use mathlib.Core.Logic.{⊎_elim}
use mathlib.Core.List.{List}
use lib.ListN.{get_or}
use Rattle.std.specs.Fn.{Called, Mut}
use Rattle.std.specs.Array.{IsFromFnResult, IsFromFnResultFrom}
use Rattle.recorded.specs.Gathering.{FirstAre}

module _ {F : Type 0} {g : Mut F (ℕ × Unit {0}) ℕ} (v : ℕ → ℕ) {f : F} (all : List ℕ) (n : ℕ)
    (gives : (i y : ℕ) (q : F) → i < n → Called g f (i, tt) y q → (q ≡ f) × (y ≡ v i)) where
  each_from : (m i : ℕ) {p : F} → i + m ≡ n → p ≡ f → IsFromFnResultFrom g p all i m → (k : ℕ) → i ≤ k → k < n → get_or all k 0 ≡ v k
  each_from zero i left own calls k low high = absurd (omega arith)
  each_from (suc m) i left own (q, y, here, called, rest) k low high =
      let given : (q ≡ f) × (y ≡ v i) = gives i y q (omega arith) (rw own at called) in
      ⊎_elim (λ e. rw (← e) (here.1 0 ∙ given.1)) (λ l. each_from m (i + 1) (omega arith) given.0 rest k (omega arith) high)
      (eq-or-lt_of_le low)

  pub filled : IsFromFnResult g f all n → FirstAre n n v all
  filled made = record { size = made.long; each = λ k l. each_from n 0 (omega arith) refl made.each k (omega arith) l }
