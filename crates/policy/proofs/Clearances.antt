-- A low-water refusal tells the outcome of its comparison. The request's number is that of the outcome wherever low-water decides, and the
-- levels that it compares are those of standing. An outcome other than "at most" is a rank too low or a compartment missing, and there is
-- such an outcome exactly where low-water's published form does not hold.
use Prim.Native.Nat.{ℕ}
use mathlib.Core.Path.{◌≡◌, refl, sym, ap, ◌∙◌}
use mathlib.Core.Logic.{inl, inr, ⊎_elim, ◌↔◌, ◌≢◌}
use mathlib.Core.Bool.{Bool, true, false, cond, false≢true}
use mathlib.Core.List.{List}
use mathlib.Core.Option.{some}
use borrow.Author.Tests.{eq-eqb}
use Rattle.bits.specs.Bits.{bit}
use Rattle.bits.specs.Bounded.{◌implies◌}
use Rattle.bits.proofs.Booleans.{and_left, and_right, implies_elim, decide, false_elim, false_intro}
use Rattle.level.specs.declared.Comparison.{Comparison}
use Rattle.level.specs.declared.Comparison.TheVariants.{AtMost, RankTooLow, CompartmentMissing}
use Rattle.level.specs.Levels.{is_at_most}
use Rattle.level.proofs.Comparing.{is_at_most_lem}
use Rattle.policy.specs.declared.Tables.{Tables}
use Rattle.policy.specs.Checks.{ladder}
use Rattle.policy.specs.Tables.{person_declared, in_force, wall_rule, low_water_rule, roles_rule, pipeline_rule}
use Rattle.policy.specs.Rulebook.{given}
use Rattle.policy.specs.Request.{Request, read, write, start, step, request_of, set_of}
use Rattle.policy.specs.Levels.{level_at}
use Rattle.policy.specs.Rules.{declared, current_level, modify_outcome, level_outcome, low_water}
use Rattle.policy.specs.Calls.{
  State,
  blank_number,
  call_checks,
  outcome_number,
  request_checks,
  judge_number,
  standing_number,
  standing,
}
use Rattle.policy.specs.Published.{LowWaterInForce, requester, IsCurrentLevel, held_level, IsHeldLevel}
use Rattle.policy.specs.StepsAlter.{OfLowWater}
use Rattle.policy.specs.Clearances.{standing_outcome, LacksEither, OtherCompartments, EveryCompartment, Clearances}
use Rattle.policy.proofs.CallChecks.{size_right, held_right, taken}
use Rattle.policy.proofs.Requests.{declared_person}
use Rattle.policy.proofs.Fronts.{front_request, parties_declared}
use Rattle.policy.proofs.OutcomeNumbers.{of_low_water, zero_other, one_outcome}
use Rattle.policy.proofs.WallNumber.{walled}
use Rattle.policy.proofs.LevelNumber.{Before, levelled, judged_granted, judged_refused, refused_judged, walled_judged}
use Rattle.policy.proofs.OtherCompartments.{rank_stays, compartments_suffice}
use Rattle.policy.proofs.Published.{level_is_meet, low_water_published}
use Rattle.policy.proofs.Held.{low_water_held}
use Rattle.policy.proofs.Histories.{judge_request}
use Rattle.policy.proofs.Compared.{Party, Reads, reads_held, reads_current, rank_compared, compartment_compared}

-- ---- the levels of standing

pub standing_zero : (t : Tables) (a : State) (s : ℕ) {d : Bool} → Before (size_right a) (held_right a) (given t) d
    → person_declared t s ≡ true → standing_number t a s ≡ 0
unfolding standing_number call_checks ladder
standing_zero t a s w d = rw (w.size, w.held, w.known, d)

pub standing_level : (t : Tables) (a : State) (s : ℕ) → standing_number t a s ≡ 0 → (standing t a s).level.0 ≡ level_at a.levels s
unfolding standing
standing_level t a s e = rw e

-- where low-water alone is in force
module _ (t : Tables) (mask : t.mask ≡ 2) where
  alone_on : in_force t low_water_rule ≡ true
  unfolding in_force bit
  alone_on = ap (λ (m : ℕ). bit m low_water_rule) mask

  alone_off : (k : ℕ) → bit 2 k ≡ false → in_force t k ≡ false
  unfolding in_force
  alone_off k off = ap (λ (m : ℕ). bit m k) mask ∙ off

module _ (t : Tables) (a : State) where
  -- the outcome is that of the levels of standing, for a request that passes the checks before the wall
  pub standing_outcome_lem : (r : Request) → Before (size_right a) (held_right a) (given t) (declared t r)
      → level_outcome t (level_at a.levels) r ≡ standing_outcome t a r
  unfolding level_outcome modify_outcome declared
  standing_outcome_lem (read s o) w = refl
  standing_outcome_lem (write s o) w =
      rw (standing_level t a s (standing_zero t a s w (and_left (person_declared t s) _ w.parties)))
  standing_outcome_lem (start s u) w =
      rw (
        standing_level t a s (standing_zero t a s w (and_left (person_declared t s) _ w.parties)),
        standing_level t a u (standing_zero t a u w (and_right (person_declared t s) _ w.parties)),
      )
  standing_outcome_lem (step s p o) w = rw (standing_level t a s (standing_zero t a s w (declared_person t s p o w.parties)))

  module _ (bytes : List ℕ) (r : Request) (is : request_of bytes ≡ some r) where
    pub granted_outcome : LowWaterInForce t → judge_number t a bytes ≡ 0 → standing_outcome t a r ≡ AtMost
    unfolding levelled low_water in_force
    granted_outcome on e =
        let (before, l) = judged_granted t a bytes r is e in
        sym (standing_outcome_lem r before) ∙ (is_at_most_lem _).1 (implies_elim _ _ l on)

    pub refused_outcome : (c : Comparison) → c ≢ AtMost → judge_number t a bytes ≡ outcome_number c → standing_outcome t a r ≡ c
    refused_outcome c other e =
        let (before, w, l, k) = judged_refused t a bytes r is _ (of_low_water c other) e in
        sym (standing_outcome_lem r before) ∙ one_outcome _ c k

    -- the checks before the wall pass
    ready_before : blank_number t a ≡ 0 → declared t r ≡ true → Before (size_right a) (held_right a) (given t) (declared t r)
    unfolding blank_number
    ready_before ready known =
        let has = taken t a ready in
        record { size = eq-eqb _ _ has.size; held = eq-eqb _ _ has.held; known = has.tables; parties = known }

    -- low-water in force, and the wall does not refuse
    told : blank_number t a ≡ 0 → declared t r ≡ true → LowWaterInForce t → judge_number t a bytes ≢ 14 → standing_outcome t a r ≢ AtMost
        → judge_number t a bytes ≡ outcome_number (standing_outcome t a r)
    unfolding levelled low_water in_force
    told ready known on unwalled other =
        let before = ready_before ready known in
        let outcome = standing_outcome_lem r before in
        let refused : is_at_most (level_outcome t (level_at a.levels) r) ≡ false =
        false_intro _ (λ x. other (sym outcome ∙ (is_at_most_lem _).1 x)) in
        ⊎_elim
        (λ w. refused_judged t a bytes r is before w (rw (on, refused)) ∙ ap outcome_number outcome)
        (λ w. absurd (unwalled (walled_judged t a bytes r is before w))) (decide (walled t (set_of a.history) r))

    -- low-water alone in force
    alone : t.mask ≡ 2 → blank_number t a ≡ 0 → declared t r ≡ true → judge_number t a bytes ≡ outcome_number (standing_outcome t a r)
    unfolding blank_number request_checks ladder low_water is_at_most outcome_number bit
    alone mask ready known =
        judge_request t a bytes r (taken t a ready) is
        ∙ rw (known, alone_off t mask wall_rule refl, alone_on t mask, alone_off t mask roles_rule refl, alone_off t mask pipeline_rule refl)
        (by (level_outcome t (level_at a.levels) r))
        ∙ ap outcome_number (standing_outcome_lem r (ready_before ready known))
      where
        by : (c : Comparison) → cond (is_at_most c) 0 (outcome_number c) ≡ outcome_number c
        by AtMost = refl
        by RankTooLow = refl
        by CompartmentMissing = refl

-- ---- other compartments of the person who asks

refused_on : (on permits : Bool) → (on implies permits) ≡ false → on ≡ true
refused_on true permits f = refl
refused_on false permits f = absurd (false≢true (sym f))

module _ (t : Tables) (a b : State) (bytes : List ℕ) (r : Request) (is : request_of bytes ≡ some r)
    (given-other : OtherCompartments (requester r) a b) where
  before_other : Before (size_right a) (held_right a) (given t) (declared t r) → Before (size_right b) (held_right b) (given t) (declared t r)
  before_other before =
      record {
        size = rw given-other.history before.size;
        held = rw given-other.size before.held;
        known = before.known;
        parties = before.parties;
      }

  rank_wanting_lem : judge_number t a bytes ≡ 15 → judge_number t b bytes ≡ 15
  unfolding level_at levelled low_water is_at_most outcome_number
  rank_wanting_lem e =
      let (before, w, l, k) = judged_refused t a bytes r is 15 (inl refl) e in
      let outcome = rank_stays t (level_at a.levels) (level_at b.levels) r given-other.rank given-other.others
      (one_outcome _ RankTooLow k) in
      refused_judged t b bytes r is (before_other before) (rw given-other.history w)
      (rw (refused_on (in_force t low_water_rule) _ l, outcome)) ∙ ap outcome_number outcome

  compartment_wanting_lem : EveryCompartment (held_level b.levels (requester r)) → judge_number t a bytes ≡ 21
      → OfLowWater (judge_number t b bytes) → ⊥
  unfolding level_at outcome_number
  compartment_wanting_lem every e refused =
      let (before, w, l, k) = judged_refused t a bytes r is 21 (inr refl) e in
      let outcome = compartments_suffice t (level_at a.levels) (level_at b.levels) r given-other.rank given-other.others every
      (one_outcome _ CompartmentMissing k) in
      let (before', w', l', k') = judged_refused t b bytes r is _ refused refl in
      zero_other (judge_number t b bytes) refused (sym (ap outcome_number outcome) ∙ k')

-- ---- what low-water refuses

-- where the levels of persons are these, and low-water permits exactly where a fact holds
module _ (t : Tables) (levels : ℕ → ℕ) (IsLevel : ℕ → ℕ → Type 0) (r : Request) (reads : (s : ℕ) → Party r s → Reads levels IsLevel s)
    {fact : Type 0} (permits : (low_water t levels r ≡ true) ↔ fact) where
  lacks : (fact → ⊥) → LacksEither t IsLevel r
  unfolding low_water is_at_most
  lacks none = go (level_outcome t levels r) refl
    where
      go : (c : Comparison) → level_outcome t levels r ≡ c → LacksEither t IsLevel r
      go AtMost e = absurd (none (permits.0 (ap is_at_most e)))
      go RankTooLow e = inl ((rank_compared t levels IsLevel r reads).0 e)
      go CompartmentMissing e = inr ((compartment_compared t levels IsLevel r reads).0 e)

  lacking : LacksEither t IsLevel r → fact → ⊥
  unfolding low_water is_at_most
  lacking w holds =
      ⊎_elim
      (λ x. false_elim _ (ap is_at_most ((rank_compared t levels IsLevel r reads).1 x)) (permits.1 holds))
      (λ x. false_elim _ (ap is_at_most ((compartment_compared t levels IsLevel r reads).1 x)) (permits.1 holds)) w

  either : (fact → ⊥) ↔ LacksEither t IsLevel r
  either = (lacks, lacking)

pub clearances : Clearances
clearances =
    record {
      alone = λ t a bytes rest r mask ready f parties.
          alone t a bytes r (front_request r rest f) mask ready ((parties_declared t r).1 parties);
      rank_wanting = λ t a b bytes rest r f other. rank_wanting_lem t a b bytes r (front_request r rest f) other;
      compartment_wanting = λ t a b bytes rest r f other. compartment_wanting_lem t a b bytes r (front_request r rest f) other;
      told = λ t a bytes rest r ready f parties.
          told t a bytes r (front_request r rest f) ready ((parties_declared t r).1 parties);
      refused = λ t a bytes rest r c f. refused_outcome t a bytes r (front_request r rest f) c;
      granted = λ t a bytes rest r f. granted_outcome t a bytes r (front_request r rest f);
      by_set = λ t H r.
          either t (current_level t H) (IsCurrentLevel t H) r (λ s p. reads_current t H (current_level t H) s (level_is_meet t H s))
          (low_water_published t H r);
      by_buffer = λ t levels r. either t (level_at levels) (IsHeldLevel levels) r (λ s p. reads_held levels s) (low_water_held t levels r);
    }
