-- What is looked up about jobs is stored one after another: a store at the next place gives one side more, since it changes no other.
use Prim.Native.Nat.{ℕ, ◌+◌, ◌<◌}
use native.Mathlib.Nat.{eq-or-lt_of_le}
use native.Mathlib.Omega.{arith}
use mathlib.Core.Path.{◌≡◌, ◌∙◌}
use mathlib.Core.Logic.{⊎_elim}
use mathlib.Core.List.{List}
use lib.ListN.{length, set, length-set}
use lib.Seq.{get_or-set_same, get_or-set_other}
use Rattle.policy.specs.declared.Tables.{Tables}
use Rattle.listed.specs.declared.pairs.Side.{Side}
use Rattle.listed.specs.Pairs.{side_of, no_side, side_at, job_at, SidesOf}

pub sides_none : (t : Tables) (bytes : List ℕ) (sides : List Side) → length sides ≡ 64 → SidesOf t bytes 0 sides
sides_none t bytes sides e = record { size = e; each = λ i l. let z : ⊥ = omega arith in absurd z }

pub sides_more : (t : Tables) (bytes : List ℕ) (n : ℕ) (sides : List Side) (x : Side) → SidesOf t bytes n sides → n < 64
    → x ≡ side_of t (job_at bytes n) → SidesOf t bytes (n + 1) (set sides n x)
sides_more t bytes n sides x s l e =
    record {
      size = length-set sides n x ∙ s.size;
      each = λ i b. ⊎_elim (last i) (λ below. earlier i below) (eq-or-lt_of_le (omega arith));
    }
  where
    last : (i : ℕ) → i ≡ n → side_at (set sides n x) i ≡ side_of t (job_at bytes i)
    last i same = rw (same, get_or-set_same sides n x no_side (rw s.size l)) e

    earlier : (i : ℕ) → i < n → side_at (set sides n x) i ≡ side_of t (job_at bytes i)
    earlier i below = get_or-set_other sides n i x no_side (λ same. let z : ⊥ = omega arith in z) ∙ s.each i below
