-- The outcome of low-water's comparison is a rank too low, or a compartment missing, exactly where the two levels that a request needs are
-- so: the levels of persons are those that a reading of them says, and the outcome of comparing two levels is as the order's laws say.
use Prim.Native.Nat.{ℕ}
use mathlib.Core.Path.{◌≡◌, refl, sym, ap, ap₂, ◌∙◌}
use mathlib.Core.Logic.{◌⊎◌, inl, inr, ◌↔◌, ◌≢◌}
use mathlib.Core.Bool.{Bool, true}
use mathlib.Core.List.{List}
use Rattle.bits.proofs.Booleans.{and_left, and_right}
use Rattle.level.specs.declared.Comparison.{Comparison}
use Rattle.level.specs.declared.Comparison.TheVariants.{AtMost, RankTooLow, CompartmentMissing}
use Rattle.level.specs.Levels.{compare_of}
use Rattle.level.proofs.Comparing.{rank_other, compartment_other, compared_rank_lem, compared_compartment_lem}
use Rattle.level.proofs.LevelLaws.{compartments_lt}
use Rattle.policy.specs.declared.Tables.{Tables}
use Rattle.policy.specs.Tables.{folder_at, person_declared}
use Rattle.policy.specs.Request.{Request, read, write, start, step}
use Rattle.policy.specs.Levels.{level_at}
use Rattle.policy.specs.Rules.{declared, modify_outcome, level_outcome}
use Rattle.policy.specs.Published.{IsCurrentLevel, LacksRank, LacksCompartment, Compared, IsHeldLevel}
use Rattle.policy.proofs.Requests.{declared_person}
use Rattle.policy.proofs.Published.{one_level}

-- the persons whose levels low-water may compare for a request
abbrev pub Party : Request → ℕ → Type 0
Party (read s o) x = x ≡ s
Party (write s o) x = x ≡ s
Party (start s u) x = (x ≡ s) ⊎ (x ≡ u)
Party (step s p o) x = x ≡ s

pub declared_party : (t : Tables) (r : Request) (x : ℕ) → declared t r ≡ true → Party r x → person_declared t x ≡ true
unfolding declared
declared_party t (read s o) x d w = rw w (and_left (person_declared t s) _ d)
declared_party t (write s o) x d w = rw w (and_left (person_declared t s) _ d)
declared_party t (start s u) x d (inl w) = rw w (and_left (person_declared t s) _ d)
declared_party t (start s u) x d (inr w) = rw w (and_right (person_declared t s) _ d)
declared_party t (step s p o) x d w = rw w (declared_person t s p o d)

-- the level of person s, as it is read, is `levels s` and no other
abbrev pub Reads : (ℕ → ℕ) → (ℕ → ℕ → Type 0) → ℕ → Type 0
Reads levels IsLevel s = (b : ℕ) → (IsLevel s b) ↔ (b ≡ levels s)

pub reads_held : (l : List ℕ) (s : ℕ) → Reads (level_at l) (IsHeldLevel l) s
unfolding level_at
reads_held l s b = (λ e. e, λ e. e)

pub reads_current : (t : Tables) (H : Request → Bool) (levels : ℕ → ℕ) (s : ℕ) → IsCurrentLevel t H s (levels s)
    → Reads levels (IsCurrentLevel t H) s
reads_current t H levels s is b = (λ w. one_level t H s b (levels s) w is, λ e. rw e is)

module _ (t : Tables) (levels : ℕ → ℕ) (IsLevel : ℕ → ℕ → Type 0) (r : Request) (reads : (s : ℕ) → Party r s → Reads levels IsLevel s)
  where
    -- an outcome other than "at most", and what it says of two levels
    module _ (c : Comparison) (other : c ≢ AtMost) (P : ℕ → ℕ → Type 0) (says : (a b : ℕ) → (compare_of 12 a b ≡ c) ↔ P a b) where
      -- of a level and the level of a person
      with_person : (s a : ℕ) → Reads levels IsLevel s → (compare_of 12 a (levels s) ≡ c) ↔ ((b : ℕ) × IsLevel s b × P a b)
      with_person s a is = (
        λ e. (levels s, (is (levels s)).1 refl, (says a (levels s)).0 e),
        λ w. let (b, level, p) = w in ap (compare_of 12 a) (sym ((is b).0 level)) ∙ (says a b).1 p,
      )

      -- of the levels of two persons
      with_persons : (s u : ℕ) → Reads levels IsLevel s → Reads levels IsLevel u
          → (compare_of 12 (levels u) (levels s) ≡ c) ↔ ((a : ℕ) × (b : ℕ) × IsLevel u a × IsLevel s b × P a b)
      with_persons s u is iu = (
        λ e. (levels u, levels s, (iu (levels u)).1 refl, (is (levels s)).1 refl, (says (levels u) (levels s)).0 e),
        λ w.
            let (a, b, first, second, p) = w in
            ap₂ (compare_of 12) (sym ((iu a).0 first)) (sym ((is b).0 second)) ∙ (says a b).1 p,
      )

      outcome_compared : (level_outcome t levels r ≡ c) ↔ Compared t IsLevel P r
      unfolding level_outcome modify_outcome
      outcome_compared = go r reads
        where
          go : (q : Request) → ((s : ℕ) → Party q s → Reads levels IsLevel s) → (level_outcome t levels q ≡ c) ↔ Compared t IsLevel P q
          go (read s o) is = (λ e. other (sym e), λ w. absurd w)
          go (write s o) is = with_person s (folder_at t o).level.0 (is s refl)
          go (start s u) is = with_persons s u (is s (inl refl)) (is u (inr refl))
          go (step s p o) is = with_person s (folder_at t o).level.0 (is s refl)

    pub rank_compared : (level_outcome t levels r ≡ RankTooLow) ↔ Compared t IsLevel LacksRank r
    rank_compared =
        outcome_compared RankTooLow rank_other LacksRank (compared_rank_lem 12)

    pub compartment_compared : (level_outcome t levels r ≡ CompartmentMissing) ↔ Compared t IsLevel LacksCompartment r
    compartment_compared =
        outcome_compared CompartmentMissing compartment_other LacksCompartment
        (λ a b. compared_compartment_lem 12 a b (compartments_lt 12 a))
