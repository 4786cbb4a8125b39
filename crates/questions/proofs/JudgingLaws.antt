-- The number of a request of declared parties, check after check: the number of wall and low-water where it is not 0, then that of roles,
-- then that of the pipeline.
use Prim.Native.Nat.{ℕ, ◌<◌}
use native.Mathlib.Omega.{arith}
use mathlib.Core.Path.{◌≡◌, refl, sym, ap, ◌∙◌}
use mathlib.Core.Logic.{◌≢◌}
use mathlib.Core.Bool.{Bool, true, false, cond, ◌&&◌}
use mathlib.Core.Option.{Option, none, some}
use Rattle.bits.specs.Bits.{bit}
use Rattle.bits.specs.Bounded.{◌implies◌}
use Rattle.bits.proofs.Booleans.{and_both, false_intro, false_elim}
use Rattle.level.specs.declared.Comparison.{Comparison}
use Rattle.level.specs.declared.Comparison.TheVariants.{AtMost, RankTooLow, CompartmentMissing}
use Rattle.level.specs.Levels.{is_at_most}
use Rattle.policy.specs.declared.Tables.{Tables}
use Rattle.policy.specs.Checks.{ladder}
use Rattle.policy.specs.Tables.{person_declared, folder_declared, in_force, wall_rule, low_water_rule, roles_rule, pipeline_rule}
use Rattle.policy.specs.Request.{Request, start, step}
use Rattle.policy.specs.Rules.{declared, wall, level_outcome, low_water, roles, pipeline}
use Rattle.policy.specs.Calls.{outcome_number, request_checks}
use Rattle.policy.proofs.Requests.{declared_person, declared_step, declared_folder}
use Rattle.policy.proofs.OutcomeNumbers.{refusal_number}
use Rattle.request.specs.declared.Parsed.{Parsed}
use Rattle.request.specs.Parsed.{access_by, as_request}
use Rattle.request.proofs.KindLaws.{kind_none}
use Rattle.questions.specs.Judging.{number_of, number_for, judged}

pub implies_true : (b : Bool) → (b implies true) ≡ true
implies_true true = refl
implies_true false = refl

-- ---- the first two checks

-- low-water alone: its number, where it is in force
level_alone : (on : Bool) (c : Comparison) → cond (on implies is_at_most c) 0 (outcome_number c) ≡ cond on (outcome_number c) 0
unfolding is_at_most outcome_number
level_alone false c = refl
level_alone true AtMost = refl
level_alone true RankTooLow = refl
level_alone true CompartmentMissing = refl

-- wall, then low-water
pub first_number : (mask : ℕ) (w : Bool) (c : Comparison)
    → number_of mask w c true true ≡ cond (bit mask wall_rule implies w) (cond (bit mask low_water_rule) (outcome_number c) 0) 14
unfolding number_of ladder
first_number mask w c =
    rw (implies_true (bit mask roles_rule), implies_true (bit mask pipeline_rule))
    (ap (λ (n : ℕ). cond (bit mask wall_rule implies w) n 14) (level_alone (bit mask low_water_rule) c))

-- ---- check after check

module _ (mask : ℕ) (w r p : Bool) (c : Comparison) where
  -- a refusal by wall or low-water is the whole number
  pub refused_first : {n : ℕ} → n ≡ number_of mask w c true true → n ≢ 0 → number_of mask w c r p ≡ n
  unfolding number_of ladder
  refused_first {n} e other =
      go (bit mask wall_rule implies w) (bit mask low_water_rule implies is_at_most c)
      (e ∙ rw (implies_true (bit mask roles_rule), implies_true (bit mask pipeline_rule)))
    where
      go : (a b : Bool) → n ≡ cond a (cond b 0 (outcome_number c)) 14
          → cond a (cond b (cond (bit mask roles_rule implies r) (cond (bit mask pipeline_rule implies p) 0 17) 16) (outcome_number c)) 14 ≡ n
      go true true e = absurd (other e)
      go true false e = sym e
      go false b e = sym e

  -- a refusal by one of the first three is the whole number
  pub refused_three : {n : ℕ} → n ≡ number_of mask w c r true → n ≢ 0 → number_of mask w c r p ≡ n
  unfolding number_of ladder
  refused_three {n} e other =
      go (bit mask wall_rule implies w) (bit mask low_water_rule implies is_at_most c) (bit mask roles_rule implies r)
      (e ∙ rw (implies_true (bit mask pipeline_rule)))
    where
      go : (a b d : Bool) → n ≡ cond a (cond b (cond d 0 16) (outcome_number c)) 14
          → cond a (cond b (cond d (cond (bit mask pipeline_rule implies p) 0 17) 16) (outcome_number c)) 14 ≡ n
      go true true true e = absurd (other e)
      go true true false e = sym e
      go true false d e = sym e
      go false b d e = sym e

  -- where they pass, the pipeline decides
  pub passed_three : 0 ≡ number_of mask w c r true → number_of mask w c r p ≡ cond (bit mask pipeline_rule implies p) 0 17
  unfolding number_of ladder
  passed_three passed =
      go (bit mask wall_rule implies w) (bit mask low_water_rule implies is_at_most c) (bit mask roles_rule implies r) refl
      (passed ∙ rw (implies_true (bit mask pipeline_rule)))
    where
      go : (a b d : Bool) → b ≡ (bit mask low_water_rule implies is_at_most c) → 0 ≡ cond a (cond b (cond d 0 16) (outcome_number c)) 14
          → cond a (cond b (cond d (cond (bit mask pipeline_rule implies p) 0 17) 16) (outcome_number c)) 14
          ≡ cond (bit mask pipeline_rule implies p) 0 17
      go true true true i e = refl
      go true true false i e = let z : ⊥ = omega arith in absurd z
      go true false d i e = absurd (refusal_number (bit mask low_water_rule) c (sym i) (sym e))
      go false b d i e = let z : ⊥ = omega arith in absurd z

  module _ (passed : 0 ≡ number_of mask w c true true) where
    -- where the first two pass, roles decide of the first three
    pub roles_decide : number_of mask w c r true ≡ cond (bit mask roles_rule implies r) 0 16
    unfolding number_of ladder
    roles_decide =
        rw (implies_true (bit mask pipeline_rule))
        (go (bit mask wall_rule implies w) (bit mask low_water_rule implies is_at_most c) refl
        (passed ∙ rw (implies_true (bit mask roles_rule), implies_true (bit mask pipeline_rule))))
      where
        go : (a b : Bool) → b ≡ (bit mask low_water_rule implies is_at_most c) → 0 ≡ cond a (cond b 0 (outcome_number c)) 14
            → cond a (cond b (cond (bit mask roles_rule implies r) 0 16) (outcome_number c)) 14 ≡ cond (bit mask roles_rule implies r) 0 16
        go true true i e = refl
        go true false i e = absurd (refusal_number (bit mask low_water_rule) c (sym i) (sym e))
        go false b i e = let z : ⊥ = omega arith in absurd z

    pub roles_refuse : (bit mask roles_rule implies r) ≡ false → 16 ≡ number_of mask w c r true
    roles_refuse off = sym (roles_decide ∙ rw off)

    pub roles_pass : (bit mask roles_rule implies r) ≡ true → 0 ≡ number_of mask w c r true
    roles_pass on = sym (roles_decide ∙ rw on)

-- ---- a whole request

module _ (t : Tables) (H : Request → Bool) (levels : ℕ → ℕ) (r : Request) where
  pub not_declared : declared t r ≡ false → judged t H levels r ≡ 13
  unfolding number_for request_checks ladder
  not_declared d = rw d

  pub by_checks : declared t r ≡ true
      → judged t H levels r ≡ number_of t.mask (wall t H r) (level_outcome t levels r) (roles t H r) (pipeline t H r)
  unfolding number_for request_checks ladder number_of low_water in_force
  by_checks d = rw d

-- ---- undeclared parties

pub undeclared_access : (t : Tables) (writes : Bool) (s o : ℕ) → person_declared t s && folder_declared t o ≡ false
    → declared t (access_by writes s o) ≡ false
unfolding access_by declared
undeclared_access t true s o n = n
undeclared_access t false s o n = n

pub undeclared_start : (t : Tables) (s u : ℕ) → person_declared t s && person_declared t u ≡ false → declared t (start s u) ≡ false
unfolding declared
undeclared_start t s u n = n

pub undeclared_step : (t : Tables) (s p o : ℕ) → person_declared t s && folder_declared t o ≡ false → declared t (step s p o) ≡ false
undeclared_step t s p o n =
    false_intro (declared t (step s p o)) (λ d.
    false_elim (person_declared t s && folder_declared t o) n (and_both _ _ (declared_person t s p o d) (declared_folder t s p o d)))

-- a step above 15 is none
pub high_step : (t : Tables) (s p o : ℕ) → 15 < p → declared t (step s p o) ≡ false
high_step t s p o l =
    false_intro (declared t (step s p o)) (λ d. let k = declared_step t s p o d in let z : ⊥ = omega arith in z)

-- ---- the number of what was parsed

module _ (t : Tables) (H : Request → Bool) (levels : ℕ → ℕ) where
  pub request_number : (r : Request) {o : Option Request} → o ≡ some r → judged t H levels r ≡ number_for t H levels o
  request_number r e = rw e

  pub undeclared_number : (r : Request) {o : Option Request} → o ≡ some r → declared t r ≡ false → 13 ≡ number_for t H levels o
  undeclared_number r e d = rw e (sym (not_declared t H levels r d))

  pub cut_number : {o : Option Request} → o ≡ none → 12 ≡ number_for t H levels o
  unfolding number_for request_checks ladder
  cut_number e = rw e

  pub none_number : (r : Parsed) → r.kind ≢ 16 → r.kind ≢ 17 → r.kind ≢ 18 → r.kind ≢ 19 → 12 ≡ number_for t H levels (as_request r)
  none_number r a b c d = cut_number (kind_none r a b c d)
