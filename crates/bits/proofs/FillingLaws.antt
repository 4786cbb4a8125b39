-- Filling a part of the array goes number by number: nothing is filled at first, and a store at the next place fills one number more,
-- since it changes no other.
use Prim.Native.Nat.{ℕ, ◌+◌, ◌<◌}
use native.Mathlib.Nat.{eq-or-lt_of_le}
use native.Mathlib.Omega.{arith}
use mathlib.Core.Path.{◌≡◌, refl, ◌∙◌}
use mathlib.Core.Logic.{⊎_elim}
use mathlib.Core.List.{List}
use lib.ListN.{length, get_or, set, length-set}
use lib.Seq.{get_or-set_same, get_or-set_other}
use Rattle.bits.specs.Filling.{Filled}

pub fill_none : (at : ℕ) (P : ℕ → ℕ → Type 0) (w : List ℕ) → Filled at 0 P w w
fill_none at P w = record { size = refl; here = λ k l. let z : ⊥ = omega arith in absurd z; kept = λ j l. refl }

pub fill_more : (at n : ℕ) (P : ℕ → ℕ → Type 0) (before w : List ℕ) (x : ℕ) {i : ℕ} → i ≡ at + n → Filled at n P before w
    → at + n < length before → P n x → Filled at (n + 1) P before (set w i x)
fill_more at n P before w x place filled room p =
    rw place
    (record {
      size = length-set w (at + n) x ∙ filled.size;
      here = λ k l. ⊎_elim (last k) (λ b. earlier k b) (eq-or-lt_of_le (omega arith));
      kept = λ j l. get_or-set_other w (at + n) j x 0 (λ e. let z : ⊥ = omega (arith, e) in z) ∙ filled.kept j l;
    })
  where
    within : at + n < length w
    within = rw filled.size room

    last : (k : ℕ) → k ≡ n → P k (get_or (set w (at + n) x) (at + k) 0)
    last k e = rw (e, get_or-set_same w (at + n) x 0 within) p

    earlier : (k : ℕ) → k < n → P k (get_or (set w (at + n) x) (at + k) 0)
    earlier k l = rw (get_or-set_other w (at + n) (at + k) x 0 (λ e. let z : ⊥ = omega (arith, e) in z)) (filled.here k l)
