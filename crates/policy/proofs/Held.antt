-- What the levels of a buffer do in the low-water rule, and that they stay those that the set gives. A buffer that holds the current level
-- of each person holds it after a granted request too: the request's own person is lowered by its folder in the buffer as in the set, and
-- every other level stays in both.
use Prim.Native.Nat.{ℕ, ◌<◌}
use mathlib.Core.Path.{◌≡◌, refl, sym, ap, ap₂, ◌∙◌}
use mathlib.Core.Logic.{◌⊎◌, ⊎_elim, ◌↔◌}
use mathlib.Core.Bool.{Bool, true}
use mathlib.Core.List.{List}
use mathlib.Core.Option.{Option, none, some}
use Rattle.bits.proofs.Booleans.{and_left, and_right, decide}
use Rattle.level.specs.Levels.{compare_of, is_at_most, at_most, meet_of}
use Rattle.policy.specs.declared.Tables.{Tables}
use Rattle.policy.specs.Checks.{◌else◌, ladder}
use Rattle.policy.specs.Tables.{folder_at, person_declared}
use Rattle.policy.specs.Request.{Request, read, write, start, step, request_of, set_of}
use Rattle.policy.specs.Levels.{level_at, met_with, lowered}
use Rattle.policy.specs.Rules.{declared, current_level, modify_outcome, level_outcome, low_water}
use Rattle.policy.specs.Calls.{State, request_checks, judge_with}
use Rattle.policy.specs.Published.{Observes, IsCurrentLevel, LowWater, LowWaterHeld}
use Rattle.policy.specs.Held.{HoldsCurrent}
use Rattle.policy.proofs.Ladders.{ladder_refuses}
use Rattle.policy.proofs.Requests.{person_below_lem, declared_person}
use Rattle.policy.proofs.Fronts.{is_person}
use Rattle.policy.proofs.Published.{level_is_meet, one_level, low_water_published}
use Rattle.policy.proofs.Lowering.{level_own, level_others}
use Rattle.policy.proofs.LevelBytes.{Holding, holding_level, holding_ext, holding_with}

-- ---- the rule

pub low_water_held : (t : Tables) (l : List ℕ) (r : Request) → (low_water t (level_at l) r ≡ true) ↔ LowWaterHeld t l r
unfolding low_water level_outcome modify_outcome is_at_most at_most level_at
low_water_held t l (read s o) = (λ e. tt, λ w. refl)
low_water_held t l (write s o) = (λ e. e, λ w. w)
low_water_held t l (start s u) = (λ e. e, λ w. w)
low_water_held t l (step s p o) = (λ e. e, λ w. w)

-- levels that are the same for every declared person are judged alike: an undeclared person's request gets 13
module _ (t : Tables) (levels levels' : ℕ → ℕ) (same : (s : ℕ) → person_declared t s ≡ true → levels s ≡ levels' s) where
  outcome_same : (r : Request) → declared t r ≡ true → level_outcome t levels r ≡ level_outcome t levels' r
  unfolding level_outcome modify_outcome declared
  outcome_same (read s o) d = refl
  outcome_same (write s o) d = ap (compare_of 12 (folder_at t o).level.0) (same s (and_left (person_declared t s) _ d))
  outcome_same (start s u) d =
      ap₂ (compare_of 12) (same u (and_right (person_declared t s) _ d)) (same s (and_left (person_declared t s) _ d))
  outcome_same (step s p o) d = ap (compare_of 12 (folder_at t o).level.0) (same s (declared_person t s p o d))

  pub same_levels : (H : Request → Bool) (bytes : List ℕ) → judge_with t H levels bytes ≡ judge_with t H levels' bytes
  unfolding judge_with request_checks low_water
  same_levels H bytes = go (request_of bytes)
    where
      go : (q : Option Request) → ladder (request_checks t H levels q) ≡ ladder (request_checks t H levels' q)
      go none = refl
      go (some r) =
          ⊎_elim (λ d. rw (outcome_same r d))
          (λ f. ladder_refuses (declared t r else 13) _ f ∙ sym (ladder_refuses (declared t r else 13) _ f)) (decide (declared t r))

-- levels that are current for every declared person
module _ (t : Tables) (H : Request → Bool) (levels : ℕ → ℕ)
    (held : (s : ℕ) → person_declared t s ≡ true → IsCurrentLevel t H s (levels s)) where
  pub low_water_by_set : (r : Request) → declared t r ≡ true → (low_water t levels r ≡ true) ↔ LowWater t H r
  unfolding low_water
  low_water_by_set r d =
      let same =
      ap is_at_most (outcome_same t levels (current_level t H) (λ s e. one_level t H s _ _ (held s e) (level_is_meet t H s)) r d) in
      let published = low_water_published t H r in
      (λ e. published.0 (sym same ∙ e), λ w. same ∙ published.1 w)

-- a buffer that holds what the history gives has such levels
pub held_levels : (t : Tables) (a : State) → HoldsCurrent t a → (s : ℕ) → person_declared t s ≡ true
    → IsCurrentLevel t (set_of a.history) s (level_at a.levels s)
unfolding level_at
held_levels t a held s d = held s ((is_person t s).0 d)

-- ---- one granted request more

module _ (t : Tables) (H H' : Request → Bool) (r : Request) (known : declared t r ≡ true)
    (added : (q : Request) → (H' q ≡ true) ↔ ((q ≡ r) ⊎ (H q ≡ true))) where
  -- the person's own entry, where the request is a read or a step by person s on folder o
  holding_met : (l : List ℕ) (s o : ℕ) → ((u i : ℕ) → (Observes r u i) ↔ ((s ≡ u) × (o ≡ i))) → s < 64 → Holding (current_level t H) l
      → Holding (current_level t H') (met_with t l s o)
  unfolding met_with
  holding_met l s o own below h =
      let met : current_level t H' s ≡ meet_of 12 (level_at l s) (folder_at t o).level.0 =
      level_own t H H' r known added s o (λ i. (λ w. ((own s i).0 w).1, λ e. (own s i).1 (refl, e)))
      ∙ ap (λ (x : ℕ). meet_of 12 x (folder_at t o).level.0) (sym (holding_level (current_level t H) l s h below)) in
      rw (← met)
      (holding_with (current_level t H) (current_level t H') l s h below (λ u other.
      level_others t H H' r known added u (λ i w. other (sym ((own u i).0 w).0))))

  pub holding_lowered : (l : List ℕ) → Holding (current_level t H) l → Holding (current_level t H') (lowered t l r)
  unfolding lowered declared
  holding_lowered l h = go r refl
    where
      same : ((s i : ℕ) → Observes r s i → ⊥) → Holding (current_level t H') l
      same nobody = holding_ext (current_level t H) (current_level t H') l (λ s below. sym (level_others t H H' r known added s (nobody s))) h

      go : (q : Request) → r ≡ q → Holding (current_level t H') (lowered t l q)
      go (read s o) e =
          let d : declared t (read s o) ≡ true = rw e at known in
          holding_met l s o (λ u i. rw e (λ w. w, λ w. w)) (person_below_lem t s (and_left (person_declared t s) _ d)) h
      go (write s o) e = same (λ s i w. rw e at w)
      go (start s u) e = same (λ s i w. rw e at w)
      go (step s p o) e =
          let d : declared t (step s p o) ≡ true = rw e at known in
          holding_met l s o (λ u i. rw e (λ w. w, λ w. w)) (person_below_lem t s (declared_person t s p o d)) h
