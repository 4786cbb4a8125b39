-- When a request gets a number of low-water, 15 or 21: exactly where the checks before low-water permit and low-water does not, and its
-- outcome has this number, whatever the rules after it say, since these have other numbers. By cases on the checks.
use Prim.Native.Nat.{ℕ}
use native.Mathlib.Omega.{arith}
use mathlib.Core.Path.{◌≡◌, refl, sym, ap, ◌∙◌}
use mathlib.Core.Logic.{inl, inr, ◌≢◌, ⊎_elim}
use mathlib.Core.Bool.{Bool, true, false, cond}
use mathlib.Core.List.{List}
use mathlib.Core.Option.{some}
use Rattle.bits.specs.Bounded.{◌implies◌}
use Rattle.policy.specs.declared.Tables.{Tables}
use Rattle.policy.specs.Checks.{ladder}
use Rattle.policy.specs.Tables.{in_force, low_water_rule, roles_rule, pipeline_rule}
use Rattle.policy.specs.Rulebook.{given}
use Rattle.policy.specs.Request.{Request, request_of, set_of}
use Rattle.policy.specs.Levels.{level_at}
use Rattle.policy.specs.Rules.{declared, level_outcome, low_water, roles, pipeline}
use Rattle.policy.specs.Calls.{State, outcome_number, judge_number}
use Rattle.policy.specs.StepsAlter.{OfLowWater}
use Rattle.policy.proofs.CallChecks.{size_right, held_right}
use Rattle.policy.proofs.OutcomeNumbers.{refusal_number}
use Rattle.policy.proofs.WallNumber.{number_of, walled, after_wall, judged_number, judged_as_lem}

-- low-water, where it is in force
unfoldable pub levelled : Tables → (ℕ → ℕ) → Request → Bool
levelled t levels r = in_force t low_water_rule implies low_water t levels r

-- the number of the rules after low-water
unfoldable pub after_level : Tables → (Request → Bool) → Request → ℕ
after_level t H r = cond (in_force t roles_rule implies roles t H r) (cond (in_force t pipeline_rule implies pipeline t H r) 0 17) 16

-- it is another one
last_other : (r p : Bool) (n : ℕ) → OfLowWater n → ◌≢◌ {A = ℕ} (cond r (cond p 0 17) 16) n
last_other false p n (inl e) = omega arith
last_other false p n (inr e) = omega arith
last_other true false n (inl e) = omega arith
last_other true false n (inr e) = omega arith
last_other true true n (inl e) = omega arith
last_other true true n (inr e) = omega arith

pub level_other : (t : Tables) (H : Request → Bool) (r : Request) (n : ℕ) → OfLowWater n → after_level t H r ≢ n
unfolding after_level
level_other t H r = last_other (in_force t roles_rule implies roles t H r) (in_force t pipeline_rule implies pipeline t H r)

-- the number of the request that some bytes hold, by the number with which low-water refuses it and that of what comes after
unfoldable pub level_number : Bool → Bool → Bool → Bool → Bool → Bool → ℕ → ℕ → ℕ
level_number size held given parties walled levelled refusal later = number_of size held given parties walled (cond levelled later refusal)

pub judged_level : (t : Tables) (a : State) (bytes : List ℕ) (r : Request) → request_of bytes ≡ some r
    → judge_number t a bytes
    ≡ level_number (size_right a) (held_right a) (given t) (declared t r) (walled t (set_of a.history) r)
    (levelled t (level_at a.levels) r) (outcome_number (level_outcome t (level_at a.levels) r)) (after_level t (set_of a.history) r)
unfolding judge_number judged_number after_wall ladder levelled after_level level_number
judged_level t a bytes r is = ap (judged_number t a) is ∙ judged_as_lem t a r

-- where low-water refuses, what comes after it does not count
pub same_refusal : (a c b d w l : Bool) (k m m' n : ℕ) → m ≢ n → level_number a c b d w l k m ≡ n → level_number a c b d w l k m' ≡ n
unfolding level_number
same_refusal false c b d w l k m m' n other e = e
same_refusal true false b d w l k m m' n other e = e
same_refusal true true false d w l k m m' n other e = e
same_refusal true true true false w l k m m' n other e = e
same_refusal true true true true false l k m m' n other e = e
same_refusal true true true true true false k m m' n other e = e
same_refusal true true true true true true k m m' n other e = absurd (other e)

-- the checks before the wall permit: both lengths are right, the tables are given and the parties declared
pub record Before (a c b d : Bool) : Type 0 where
  pub size : a ≡ true
  pub held : c ≡ true
  pub known : b ≡ true
  pub parties : d ≡ true

-- no check before low-water has a number of it
early : (n m : ℕ) → OfLowWater n → m ≡ n → m ≢ 15 → m ≢ 21 → ⊥
early n m is e a b = ⊎_elim (λ f. a (e ∙ f)) (λ f. b (e ∙ f)) is

-- the checks before low-water permit, and low-water does not, and refuses with this number
refused_level : (a c b d w l : Bool) (k m n : ℕ) → OfLowWater n → m ≢ n → level_number a c b d w l k m ≡ n
    → Before a c b d × (w ≡ true) × (l ≡ false) × (k ≡ n)
unfolding level_number
refused_level false c b d w l k m n is other e = absurd (early n 10 is e (omega arith) (omega arith))
refused_level true false b d w l k m n is other e = absurd (early n 20 is e (omega arith) (omega arith))
refused_level true true false d w l k m n is other e = absurd (early n 11 is e (omega arith) (omega arith))
refused_level true true true false w l k m n is other e = absurd (early n 13 is e (omega arith) (omega arith))
refused_level true true true true false l k m n is other e = absurd (early n 14 is e (omega arith) (omega arith))
refused_level true true true true true false k m n is other e =
    (record { size = refl; held = refl; known = refl; parties = refl }, refl, refl, e)
refused_level true true true true true true k m n is other e = absurd (other e)

-- every check permits, where a refusal by low-water has a number other than 0
granted_level : (a c b d w l : Bool) (k m : ℕ) → (l ≡ false → k ≢ 0) → level_number a c b d w l k m ≡ 0 → Before a c b d × (l ≡ true)
unfolding level_number
granted_level false c b d w l k m not0 e = let z : ⊥ = omega arith in absurd z
granted_level true false b d w l k m not0 e = let z : ⊥ = omega arith in absurd z
granted_level true true false d w l k m not0 e = let z : ⊥ = omega arith in absurd z
granted_level true true true false w l k m not0 e = let z : ⊥ = omega arith in absurd z
granted_level true true true true false l k m not0 e = let z : ⊥ = omega arith in absurd z
granted_level true true true true true false k m not0 e = absurd (not0 refl e)
granted_level true true true true true true k m not0 e = (record { size = refl; held = refl; known = refl; parties = refl }, refl)

-- ---- a call

module _ (t : Tables) (a : State) (bytes : List ℕ) (r : Request) (is : request_of bytes ≡ some r) where
  pub judged_granted : judge_number t a bytes ≡ 0
      → Before (size_right a) (held_right a) (given t) (declared t r) × (levelled t (level_at a.levels) r ≡ true)
  unfolding levelled low_water
  judged_granted e =
      granted_level _ _ _ _ _ (levelled t (level_at a.levels) r) (outcome_number (level_outcome t (level_at a.levels) r)) _
      (refusal_number (in_force t low_water_rule) (level_outcome t (level_at a.levels) r)) (sym (judged_level t a bytes r is) ∙ e)

  pub judged_refused : (n : ℕ) → OfLowWater n → judge_number t a bytes ≡ n
      → Before (size_right a) (held_right a) (given t) (declared t r) × (walled t (set_of a.history) r ≡ true)
      × (levelled t (level_at a.levels) r ≡ false) × (outcome_number (level_outcome t (level_at a.levels) r) ≡ n)
  judged_refused n of e =
      refused_level _ _ _ _ _ _ _ _ n of (level_other t (set_of a.history) r n of) (sym (judged_level t a bytes r is) ∙ e)

  -- and back: where the checks before low-water permit and low-water does not, the number is that of the outcome
  pub refused_judged : Before (size_right a) (held_right a) (given t) (declared t r) → walled t (set_of a.history) r ≡ true
      → levelled t (level_at a.levels) r ≡ false → judge_number t a bytes ≡ outcome_number (level_outcome t (level_at a.levels) r)
  unfolding level_number
  refused_judged before w l =
      judged_level t a bytes r is ∙ rw (before.size, before.held, before.known, before.parties, w, l)

  -- a request that the wall refuses gets 14
  pub walled_judged : Before (size_right a) (held_right a) (given t) (declared t r) → walled t (set_of a.history) r ≡ false
      → judge_number t a bytes ≡ 14
  unfolding level_number
  walled_judged before w = judged_level t a bytes r is ∙ rw (before.size, before.held, before.known, before.parties, w)
