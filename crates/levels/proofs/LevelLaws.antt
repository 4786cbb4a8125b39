-- The first levels of the persons below a number, stored one after another: one person more is one entry more, and of all 64 they are the
-- first levels of the definitions.
use Prim.Native.Nat.{ℕ, ◌+◌, ◌<◌}
use native.Mathlib.Numerals.{add-one}
use mathlib.Core.Path.{◌≡◌, refl}
use mathlib.Core.Bool.{cond}
use mathlib.Core.List.{List}
use borrow.Author.Tests.{lt-ltb}
use Rattle.bits.specs.Bounded.{fold_below}
use Rattle.policy.specs.declared.Tables.{Tables}
use Rattle.policy.specs.Tables.{person_at, person_declared}
use Rattle.policy.specs.Levels.{with_level_at, first_level, first_levels}

unfoldable pub stored_below : Tables → ℕ → List ℕ → List ℕ
stored_below t n l = fold_below n (λ s m. with_level_at m s (first_level t s)) l

pub stored_none : (t : Tables) (l : List ℕ) → l ≡ stored_below t 0 l
unfolding stored_below fold_below
stored_none t l = refl

pub stored_more : (t : Tables) (n : ℕ) (l : List ℕ) {first : ℕ} → n < 64
    → first ≡ cond (person_at t n).declared (person_at t n).level.0 0 → with_level_at (stored_below t n l) n first ≡ stored_below t (n + 1) l
unfolding stored_below fold_below first_level person_declared
stored_more t n l below is = rw (add-one, is, lt-ltb n 64 below)

pub stored_all : (t : Tables) (l : List ℕ) → stored_below t 64 l ≡ first_levels t l
unfolding stored_below first_levels
stored_all t l = refl
