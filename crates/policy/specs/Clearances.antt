-- Document 02, Point 5, as claims about what the calls return: a low-water refusal tells which clearance is wanting, a rank or a
-- compartment. They hold on every history and level buffer, and speak of the levels that standing gives, which are the stored ones.
use Rattle.std.specs.Prelude.{ℕ, ◌<◌, ◌≡◌, ◌⊎◌, ◌↔◌, ◌≢◌, Bool, true, List, length}
use Rattle.bits.specs.Bits.{bit}
use Rattle.level.specs.declared.Comparison.{Comparison}
use Rattle.level.specs.declared.Comparison.TheVariants.{AtMost}
use Rattle.level.specs.Levels.{rank_of, compartments_of, compare_of}
use Rattle.policy.specs.declared.Tables.{Tables}
use Rattle.policy.specs.Tables.{folder_at}
use Rattle.policy.specs.Request.{Request, read, write, start, step}
use Rattle.policy.specs.Calls.{State, blank_number, outcome_number, judge_number, standing}
use Rattle.policy.specs.Published.{
  LowWaterInForce,
  requester,
  IsCurrentLevel,
  LowWater,
  held_level,
  LowWaterHeld,
  LacksRank,
  LacksCompartment,
  Compared,
  IsHeldLevel,
}
use Rattle.policy.specs.Causes.{AtFront, PartiesDeclared}
use Rattle.policy.specs.StepsAlter.{OfLowWater}

-- the outcome of the comparison that a request needs, by the levels of standing; a read needs none
abbrev pub standing_outcome : Tables → State → Request → Comparison
standing_outcome t a (read s o) = AtMost
standing_outcome t a (write s o) = compare_of 12 (folder_at t o).level.0 (standing t a s).level.0
standing_outcome t a (start s u) = compare_of 12 (standing t a u).level.0 (standing t a s).level.0
standing_outcome t a (step s p o) = compare_of 12 (folder_at t o).level.0 (standing t a s).level.0

-- the rank is too low, or it suffices and a compartment is missing, of the levels that a request of these persons needs
abbrev pub LacksEither : Tables → (ℕ → ℕ → Type 0) → Request → Type 0
LacksEither t IsLevel r = Compared t IsLevel LacksRank r ⊎ Compared t IsLevel LacksCompartment r

-- two states differ in the compartments of person s alone: in the stored level, whose rank is kept
pub record OtherCompartments (s : ℕ) (a b : State) : Type 0 where
  pub history : b.history ≡ a.history
  pub size : length b.levels ≡ length a.levels
  pub rank : rank_of 12 (held_level b.levels s) ≡ rank_of 12 (held_level a.levels s)
  pub others : (u : ℕ) → u ≢ s → held_level b.levels u ≡ held_level a.levels u

-- the level has every compartment
abbrev pub EveryCompartment : ℕ → Type 0
EveryCompartment level = (k : ℕ) → k < 12 → bit (compartments_of 12 level) k ≡ true

pub record Clearances : Type 0 where
  -- which clearance to request: what is answered 15 is answered 15 whatever compartments the person is given; what is answered 21 is
  -- refused by low-water no more, where the person is given every compartment and no other rank
  pub rank_wanting :
      (t : Tables) (a b : State) (bytes rest : List ℕ) (r : Request) → AtFront r bytes rest → OtherCompartments (requester r) a b
      → judge_number t a bytes ≡ 15 → judge_number t b bytes ≡ 15
  pub compartment_wanting :
      (t : Tables) (a b : State) (bytes rest : List ℕ) (r : Request) → AtFront r bytes rest → OtherCompartments (requester r) a b
      → EveryCompartment (held_level b.levels (requester r)) → judge_number t a bytes ≡ 21 → OfLowWater (judge_number t b bytes) → ⊥
  -- the number of the outcome stands right after the wall's: where the wall does not refuse, whatever the rules after low-water say
  pub told :
      (t : Tables) (a : State) (bytes rest : List ℕ) (r : Request) → blank_number t a ≡ 0 → AtFront r bytes rest → PartiesDeclared t r
      → LowWaterInForce t → judge_number t a bytes ≢ 14 → standing_outcome t a r ≢ AtMost
      → judge_number t a bytes ≡ outcome_number (standing_outcome t a r)
  -- where low-water alone is in force, the number of a request is that of its outcome: 0, 15 or 21
  pub alone :
      (t : Tables) (a : State) (bytes rest : List ℕ) (r : Request) → t.mask ≡ 2 → blank_number t a ≡ 0 → AtFront r bytes rest
      → PartiesDeclared t r → judge_number t a bytes ≡ outcome_number (standing_outcome t a r)
  -- whatever rules are in force, a request that is refused with the number of an outcome has this outcome
  pub refused :
      (t : Tables) (a : State) (bytes rest : List ℕ) (r : Request) (c : Comparison) → AtFront r bytes rest → c ≢ AtMost
      → judge_number t a bytes ≡ outcome_number c → standing_outcome t a r ≡ c
  -- and one that is granted under low-water has the outcome "at most"
  pub granted :
      (t : Tables) (a : State) (bytes rest : List ℕ) (r : Request) → AtFront r bytes rest → LowWaterInForce t
      → judge_number t a bytes ≡ 0 → standing_outcome t a r ≡ AtMost
  -- "what is granted doesn't alter": low-water refuses, by 001's form over a set or read with the levels in a buffer, exactly where the
  -- rank is too low or a compartment is missing
  pub by_set :
      (t : Tables) (H : Request → Bool) (r : Request) → (LowWater t H r → ⊥) ↔ LacksEither t (IsCurrentLevel t H) r
  pub by_buffer :
      (t : Tables) (levels : List ℕ) (r : Request) → (LowWaterHeld t levels r → ⊥) ↔ LacksEither t (IsHeldLevel levels) r
