-- Levels met one after another: the first level with the level of each number below n of which a test holds. What is at most the result is
-- what is at most the first level and each level met. So levels met by one test, and then by another, are the levels met by either.
use Prim.Native.Nat.{ℕ, zero, suc, ◌<◌}
use native.Mathlib.Nat.{eq-or-lt_of_le, le_of_suc-le-suc, not-suc-le-zero, lt-suc_self}
use native.Mathlib.Omega.{arith}
use mathlib.Core.Path.{◌≡◌, refl, sym, ◌∙◌}
use mathlib.Core.Logic.{⊎_elim, ◌↔◌}
use mathlib.Core.Bool.{Bool, true, false, cond, ◌&&◌, ◌||◌}
use Rattle.bits.specs.Bounded.{fold_below}
use Rattle.bits.proofs.Booleans.{and_left, and_right, and_both, or_cases, or_left, or_right, false_elim}
use Rattle.level.specs.Levels.{at_most, meet_of}
use Rattle.level.proofs.LevelLaws.{at_most_refl, at_most_antisym, split}

-- the level after number o, which is met if the test holds
abbrev pub met_if : ℕ → (ℕ → ℕ) → (ℕ → Bool) → ℕ → ℕ → ℕ
met_if w levels p o l = cond (p o) (meet_of w l (levels o)) l

-- c is at most the first level, and at most the level of each number below n of which the test holds
abbrev pub BelowEach : ℕ → (ℕ → ℕ) → (ℕ → Bool) → ℕ → ℕ → ℕ → Type 0
BelowEach w levels p first n c =
    (at_most w c first ≡ true) × ((o : ℕ) → o < n → p o ≡ true → at_most w c (levels o) ≡ true)

-- two levels that the same levels are at most are one
pub same_below : (w a b : ℕ) → ((c : ℕ) → (at_most w c a ≡ true) ↔ (at_most w c b ≡ true)) → a ≡ b
same_below w a b same = at_most_antisym w a b ((same a).0 (at_most_refl w a)) ((same b).1 (at_most_refl w b))

module _ (w : ℕ) (levels : ℕ → ℕ) where
  met_each : (p : ℕ → Bool) (first n c : ℕ) → at_most w c (fold_below n (met_if w levels p) first) ≡ true
      → BelowEach w levels p first n c
  unfolding fold_below
  met_each p first zero c e = (e, λ o l. absurd (not-suc-le-zero l))
  met_each p first (suc n) c e = go (p n) refl (met_each p first n c) e
    where
      below : ℕ
      below = fold_below n (met_if w levels p) first

      go : (b : Bool) → p n ≡ b → (at_most w c below ≡ true → BelowEach w levels p first n c)
          → at_most w c (cond b (meet_of w below (levels n)) below) ≡ true → BelowEach w levels p first (suc n) c
      go true d ih e =
          let both : at_most w c below && at_most w c (levels n) ≡ true = sym (split w below (levels n) c) ∙ e in
          let before = ih (and_left (at_most w c below) _ both) in (
            before.0,
            λ o l d'.
                ⊎_elim (λ (q : o ≡ n). rw q (and_right (at_most w c below) _ both)) (λ k. before.1 o k d')
                (eq-or-lt_of_le (le_of_suc-le-suc l)),
          )
      go false d ih e =
          let before = ih e in (
            before.0,
            λ o l d'.
                ⊎_elim (λ (q : o ≡ n). absurd (false_elim (p n) d (rw q at d'))) (λ k. before.1 o k d')
                (eq-or-lt_of_le (le_of_suc-le-suc l)),
          )

  each_met : (p : ℕ → Bool) (first n c : ℕ) → BelowEach w levels p first n c
      → at_most w c (fold_below n (met_if w levels p) first) ≡ true
  unfolding fold_below
  each_met p first zero c h = h.0
  each_met p first (suc n) c h =
      go (p n) refl (each_met p first n c (h.0, λ o l. h.1 o (omega arith)))
    where
      below : ℕ
      below = fold_below n (met_if w levels p) first

      go : (b : Bool) → p n ≡ b → at_most w c below ≡ true → at_most w c (cond b (meet_of w below (levels n)) below) ≡ true
      go true d e = split w below (levels n) c ∙ and_both _ _ e (h.1 n (lt-suc_self n) d)
      go false d e = e

  -- what is at most the levels met
  pub met_below : (p : ℕ → Bool) (first n c : ℕ)
      → (at_most w c (fold_below n (met_if w levels p) first) ≡ true) ↔ BelowEach w levels p first n c
  met_below p first n c = (met_each p first n c, each_met p first n c)

  -- the levels met by one test, and then by another
  pub met_either : (p q : ℕ → Bool) (first n : ℕ)
      → fold_below n (met_if w levels q) (fold_below n (met_if w levels p) first) ≡ fold_below n (met_if w levels (λ o. p o || q o)) first
  met_either p q first n =
      same_below w _ _ (λ c. (
        λ e.
            let (a, second) = (met_below q _ n c).0 e in
            let (start, one) = (met_below p first n c).0 a in
            (met_below (λ o. p o || q o) first n c).1
            (start, λ o l d. ⊎_elim (one o l) (second o l) (or_cases (p o) (q o) d)),
        λ e.
            let (start, both) = (met_below (λ o. p o || q o) first n c).0 e in
            (met_below q _ n c).1
            ((met_below p first n c).1 (start, λ o l d. both o l (or_left _ _ d)), λ o l d. both o l (or_right (p o) _ d)),
      ))
