-- The numbers of the outcomes of low-water's comparison: "at most" has 0, and each other outcome a number of its own, 15 or 21, which is
-- none of another rule. By the outcomes one after another.
use Prim.Native.Nat.{ℕ}
use native.Mathlib.Omega.{arith}
use mathlib.Core.Path.{◌≡◌, refl, sym}
use mathlib.Core.Logic.{inl, inr, ◌≢◌}
use mathlib.Core.Bool.{Bool, true, false, false≢true}
use Rattle.bits.specs.Bounded.{◌implies◌}
use Rattle.level.specs.declared.Comparison.{Comparison}
use Rattle.level.specs.declared.Comparison.TheVariants.{AtMost, RankTooLow, CompartmentMissing}
use Rattle.level.specs.Levels.{is_at_most}
use Rattle.policy.specs.Calls.{outcome_number}
use Rattle.policy.specs.StepsAlter.{OfLowWater}

-- every outcome but "at most" has a number of low-water
pub of_low_water : (c : Comparison) → c ≢ AtMost → OfLowWater (outcome_number c)
unfolding outcome_number
of_low_water AtMost n = absurd (n refl)
of_low_water RankTooLow n = inl refl
of_low_water CompartmentMissing n = inr refl

-- such a number is not 0
pub zero_other : (n : ℕ) → OfLowWater n → 0 ≢ n
zero_other n (inl e) z = omega arith
zero_other n (inr e) z = omega arith

-- no outcome has the wall's number
pub outcome_other : (c : Comparison) → outcome_number c ≢ 14
unfolding outcome_number
outcome_other AtMost = omega arith
outcome_other RankTooLow = omega arith
outcome_other CompartmentMissing = omega arith

-- and each has its own
pub one_outcome : (c d : Comparison) → outcome_number c ≡ outcome_number d → c ≡ d
unfolding outcome_number
one_outcome AtMost AtMost e = refl
one_outcome AtMost RankTooLow e = let z : ⊥ = omega arith in absurd z
one_outcome AtMost CompartmentMissing e = let z : ⊥ = omega arith in absurd z
one_outcome RankTooLow AtMost e = let z : ⊥ = omega arith in absurd z
one_outcome RankTooLow RankTooLow e = refl
one_outcome RankTooLow CompartmentMissing e = let z : ⊥ = omega arith in absurd z
one_outcome CompartmentMissing AtMost e = let z : ⊥ = omega arith in absurd z
one_outcome CompartmentMissing RankTooLow e = let z : ⊥ = omega arith in absurd z
one_outcome CompartmentMissing CompartmentMissing e = refl

-- where low-water refuses, if it is in force, its number is not 0
pub refusal_number : (on : Bool) (c : Comparison) → (on implies is_at_most c) ≡ false → outcome_number c ≢ 0
unfolding is_at_most outcome_number
refusal_number false c f e = false≢true (sym f)
refusal_number true AtMost f e = false≢true (sym f)
refusal_number true RankTooLow f e = omega arith
refusal_number true CompartmentMissing f e = omega arith
