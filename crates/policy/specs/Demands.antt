-- What stands beside the agreement, on every input, history, level buffer and set of tables: document 01's first and second demand, with
-- document 02, Points 4 and 5.
use Rattle.std.specs.Prelude.{ℕ, ◌+◌, ◌*◌, ◌/◌, ◌%◌, ◌<◌, ◌≡◌, ◌⊎◌, ◌↔◌, ◌≢◌, Bool, true, length, get_or, drop}
use mathlib.Core.List.{List, [], ◌∷◌, ◌++◌, Memᴰ}
use Rattle.bits.specs.Bits.{bit}
use Rattle.level.specs.Levels.{meet_of}
use Rattle.policy.specs.declared.Tables.{Tables}
use Rattle.policy.specs.Tables.{person_at, folder_at}
use Rattle.policy.specs.Rulebook.{has_circle, load_book}
use Rattle.policy.specs.Request.{Request, read, write, start, step, set_of}
use Rattle.policy.specs.Rules.{current_level}
use Rattle.policy.specs.Levels.{level_at}
use Rattle.policy.specs.Calls.{
  State,
  blank_number,
  blank_state,
  rest_of,
  judge_number,
  put_state,
  put_numbers,
  put_states,
  ran,
  run_state,
  run_answers,
  standing,
}
use Rattle.policy.specs.Published.{
  WallInForce,
  LowWaterInForce,
  RolesInForce,
  PipelineInForce,
  Observes,
  requester,
  right_of,
  InHistory,
  Accessed,
  IsCurrentLevel,
  Wall,
  LowWater,
  Roles,
  Pipeline,
  held_level,
  LowWaterHeld,
  IsHeldLevel,
}
use Rattle.policy.specs.Ways.{Way, Enables}
use Rattle.policy.specs.Given.{OfType, LoadGives}
use Rattle.policy.specs.Counting.{NumberOf}
use Rattle.policy.specs.Causes.{
  Answer,
  AtFront,
  PartiesDeclared,
  IsPerson,
  Turns,
  call_causes,
  judge_causes,
  run_causes,
  standing_causes,
}
use Rattle.policy.specs.Held.{HoldsCurrent, HoldsZero}
use Rattle.policy.specs.Agreement.{FromBlank}

-- ---- the first demand

-- every call's number is a published one
pub record Numbers : Type 0 where
  pub blank : (t : Tables) (a : State) → Memᴰ (blank_number t a) (0 ∷ 10 ∷ 20 ∷ 11 ∷ [])
  pub load : (book : List ℕ) → Memᴰ (load_book book).number (0 ∷ 1 ∷ 2 ∷ 3 ∷ 4 ∷ 5 ∷ 6 ∷ 7 ∷ 8 ∷ 9 ∷ 19 ∷ [])
  pub judge :
      (t : Tables) (a : State) (bytes : List ℕ)
      → Memᴰ (judge_number t a bytes) (0 ∷ 10 ∷ 20 ∷ 11 ∷ 12 ∷ 13 ∷ 14 ∷ 15 ∷ 21 ∷ 16 ∷ 17 ∷ [])
  pub run :
      (t : Tables) (a : State) (requests answers : List ℕ)
      → Memᴰ (ran t a requests answers).number (0 ∷ 10 ∷ 20 ∷ 11 ∷ 18 ∷ [])
  pub standing : (t : Tables) (a : State) (s : ℕ) → Memᴰ (standing t a s).number (0 ∷ 10 ∷ 20 ∷ 11 ∷ 13 ∷ [])

-- the counts and the standing of a refused call are zero, and it leaves what was lent to it, history, levels and answer bytes; a refused
-- book gives the tables of the empty book, 1 0 0, and an empty rest
pub record Refusals : Type 0 where
  pub blank : (t : Tables) (a : State) → blank_number t a ≢ 0 → blank_state t a ≡ a
  pub put : (t : Tables) (a : State) (bytes : List ℕ) → judge_number t a bytes ≢ 0 → put_state t a bytes ≡ a
  pub run :
      (t : Tables) (a : State) (requests answers : List ℕ) → (ran t a requests answers).number ≢ 0
      → ((ran t a requests answers).granted ≡ 0) × ((ran t a requests answers).refused ≡ 0)
      × (run_state t a requests answers ≡ a) × (run_answers t a requests answers ≡ answers)
  pub standing :
      (t : Tables) (a : State) (s : ℕ) → (standing t a s).number ≢ 0
      → ((standing t a s).level.0 ≡ 0) × ((standing t a s).rights ≡ 0) × ((standing t a s).firms ≡ 0)
  pub load :
      (book : List ℕ) → (load_book book).number ≢ 0
      → ((load_book book).tables ≡ (load_book (1 ∷ 0 ∷ 0 ∷ [])).tables) × (rest_of book ≡ [])

-- the number of a call, put's being judge's, is that of its first cause, and 0 where it has none; load's is in Loading
pub record Causes : Type 0 where
  pub blank : (t : Tables) (a : State) (n : ℕ) → OfType t → (blank_number t a ≡ n) ↔ Answer (call_causes t a) n
  -- low-water is read with the levels in the buffer, also where they disagree with the history
  pub judge :
      (t : Tables) (a : State) (bytes : List ℕ) (n : ℕ) → OfType t
      → (judge_number t a bytes ≡ n) ↔ Answer (judge_causes t a bytes (IsHeldLevel a.levels)) n
  -- and where they are those that the history gives, with the current levels
  pub judge_by_set :
      (t : Tables) (a : State) (bytes : List ℕ) (n : ℕ) → OfType t → HoldsCurrent t a
      → (judge_number t a bytes ≡ n) ↔ Answer (judge_causes t a bytes (IsCurrentLevel t (set_of a.history))) n
  pub run :
      (t : Tables) (a : State) (requests answers : List ℕ) (n : ℕ) → OfType t
      → ((ran t a requests answers).number ≡ n) ↔ Answer (run_causes t a requests answers) n
  pub standing :
      (t : Tables) (a : State) (s n : ℕ) → OfType t → ((standing t a s).number ≡ n) ↔ Answer (standing_causes t a s) n

-- the checks that every call begins with, and in which order: a history of another length is told first, then levels of another length,
-- whatever the tables are; and what blank is refused with, every call is refused with
pub record Beginnings : Type 0 where
  pub ten : (t : Tables) (a : State) → length a.history ≢ 18944 → blank_number t a ≡ 10
  pub twenty : (t : Tables) (a : State) → length a.history ≡ 18944 → length a.levels ≢ 128 → blank_number t a ≡ 20
  pub judge : (t : Tables) (a : State) (bytes : List ℕ) → blank_number t a ≢ 0 → judge_number t a bytes ≡ blank_number t a
  pub run : (t : Tables) (a : State) (requests answers : List ℕ) → blank_number t a ≢ 0 → (ran t a requests answers).number ≡ blank_number t a
  pub standing : (t : Tables) (a : State) (s : ℕ) → blank_number t a ≢ 0 → (standing t a s).number ≡ blank_number t a

-- blank
pub record Blanks : Type 0 where
  -- a blank history is all zero
  pub zeros :
      (t : Tables) (a : State) → blank_number t a ≡ 0
      → (length (blank_state t a).history ≡ 18944) × ((b : ℕ) → Memᴰ b (blank_state t a).history → b ≡ 0)
  -- blank levels are 128 bytes: the first levels, and zero for the undeclared
  pub size : (t : Tables) (a : State) → blank_number t a ≡ 0 → length (blank_state t a).levels ≡ 128
  pub first :
      (t : Tables) (a : State) (s : ℕ) → blank_number t a ≡ 0 → IsPerson t s
      → held_level (blank_state t a).levels s ≡ (person_at t s).level.0
  pub others : (t : Tables) (a : State) → blank_number t a ≡ 0 → HoldsZero t (blank_state t a)
  -- every book that loads has lists from blank
  pub starts :
      (book : List ℕ) → (load_book book).number ≡ 0 → (a : State) → length a.history ≡ 18944 → length a.levels ≡ 128
      → FromBlank (load_book book).tables (blank_state (load_book book).tables a)

-- ---- the second demand

-- every rule in force permits the request, by its published definition; low-water as it is read
pub record Permitted (t : Tables) (H : Request → Bool) (LowWater : Type 0) (r : Request) : Type 0 where
  pub wall : WallInForce t → Wall t H r
  pub low_water : LowWaterInForce t → LowWater
  pub roles : RolesInForce t → Roles t H r
  pub pipeline : PipelineInForce t → Pipeline t H r

-- granting: on tables that a load gives, a history and levels of the right lengths, for a request of declared parties
pub record Granting (t : Tables) (a : State) (bytes : List ℕ) (r : Request) : Type 0 where
  -- it is granted exactly where every rule in force permits it, low-water read with the levels in the buffer; otherwise it gets the number
  -- of the first that does not (Causes)
  pub exactly : (judge_number t a bytes ≡ 0) ↔ Permitted t (set_of a.history) (LowWaterHeld t a.levels r) r
  -- and where the buffer holds what the history gives, exactly where 001's forms over the set permit it
  pub by_set : HoldsCurrent t a → (judge_number t a bytes ≡ 0) ↔ Permitted t (set_of a.history) (LowWater t (set_of a.history) r) r
  -- then put adds it to the set, and nothing else
  pub added :
      judge_number t a bytes ≡ 0 → (q : Request)
      → (set_of (put_state t a bytes).history q ≡ true) ↔ ((q ≡ r) ⊎ (set_of a.history q ≡ true))
  -- and under every mask lowers the entry of the person who reads or steps, to the meet of what is stored and the folder's level
  pub lowers :
      judge_number t a bytes ≡ 0 → (s o : ℕ) → Observes r s o
      → held_level (put_state t a bytes).levels s ≡ meet_of 12 (held_level a.levels s) (folder_at t o).level.0
  -- and no other entry: every byte of another person is as it was
  pub leaves :
      judge_number t a bytes ≡ 0 → (i : ℕ) → ((o : ℕ) → Observes r (i / 2) o → ⊥)
      → get_or (put_state t a bytes).levels i 0 ≡ get_or a.levels i 0
  -- both buffers keep their lengths
  pub lengths :
      judge_number t a bytes ≡ 0 → (length (put_state t a bytes).history ≡ 18944) × (length (put_state t a bytes).levels ≡ 128)

abbrev pub Grants : Type 0
Grants =
    (t : Tables) (a : State) (bytes rest : List ℕ) (r : Request) → LoadGives t → length a.history ≡ 18944
    → length a.levels ≡ 128 → AtFront r bytes rest → PartiesDeclared t r → Granting t a bytes r

-- a run whose own number is 0, over the puts that it has
pub record Running (t : Tables) (a : State) (requests answers : List ℕ) (calls : List (List ℕ)) : Type 0 where
  -- it puts record after record; answer bytes past those written keep their values
  pub left : run_state t a requests answers ≡ put_states t a calls
  pub written : run_answers t a requests answers ≡ put_numbers t a calls ++ drop (length calls) answers
  -- of the bytes written, so many are zero and so many are not; together they are all of them
  pub granted :
      NumberOf (λ k. (k < length calls) × (get_or (run_answers t a requests answers) k 0 ≡ 0)) (ran t a requests answers).granted
  pub refused :
      NumberOf (λ k. (k < length calls) × (get_or (run_answers t a requests answers) k 0 ≢ 0)) (ran t a requests answers).refused
  pub together : (ran t a requests answers).granted + (ran t a requests answers).refused ≡ length calls

pub record Runs : Type 0 where
  -- any request bytes have puts, and there is one way to read them
  pub turns : (requests : List ℕ) → (calls : List (List ℕ)) × Turns requests calls
  pub once : (requests : List ℕ) (calls calls' : List (List ℕ)) → Turns requests calls → Turns requests calls' → calls ≡ calls'
  pub runs :
      (t : Tables) (a : State) (requests answers : List ℕ) (calls : List (List ℕ)) → Turns requests calls
      → (ran t a requests answers).number ≡ 0 → Running t a requests answers calls

-- a standing whose number is 0
pub record StandingOf (t : Tables) (a : State) (s : ℕ) : Type 0 where
  -- the level is the stored one, also where it disagrees with the history; where it does not, it is the current level
  pub level : (standing t a s).level.0 ≡ held_level a.levels s
  pub current : HoldsCurrent t a → IsCurrentLevel t (set_of a.history) s (standing t a s).level.0
  -- the rights of the requests of s in the history
  pub rights :
      NumberOf (λ x. (q : Request) × InHistory t (set_of a.history) q × (requester q ≡ s) × (right_of t q ≡ x))
      (standing t a s).rights
  -- the firms of the folders that s accessed
  pub firms :
      NumberOf (λ f. (o : ℕ) × Accessed t (set_of a.history) s o × ((folder_at t o).firm ≡ f)) (standing t a s).firms

abbrev pub Standings : Type 0
Standings = (t : Tables) (a : State) (s : ℕ) → (standing t a s).number ≡ 0 → StandingOf t a s

-- ---- what the definitions stand for

-- index i of a history is bit i mod 8 of byte i / 8
abbrev pub BitSet : List ℕ → ℕ → Type 0
BitSet h i = bit (get_or h (i / 8) 0) (i % 8) ≡ true

-- the set of a history, by the place of each request's bit; a history has no place for other numbers
pub record Places : Type 0 where
  pub read : (h : List ℕ) (s o : ℕ) → (set_of h (read s o) ≡ true) ↔ ((s < 64) × (o < 128) × BitSet h (128 * s + o))
  pub write : (h : List ℕ) (s o : ℕ) → (set_of h (write s o) ≡ true) ↔ ((s < 64) × (o < 128) × BitSet h (8192 + 128 * s + o))
  pub start : (h : List ℕ) (s u : ℕ) → (set_of h (start s u) ≡ true) ↔ ((s < 64) × (u < 64) × BitSet h (16384 + 64 * s + u))
  pub step :
      (h : List ℕ) (s p o : ℕ)
      → (set_of h (step s p o) ≡ true) ↔ ((s < 64) × (p < 16) × (o < 128) × BitSet h (20480 + 64 * (16 * o + p) + s))

-- the stored entry of a person, by its bytes
abbrev pub Entries : Type 0
Entries = (levels : List ℕ) (s : ℕ) → level_at levels s ≡ held_level levels s

-- the current level is the meet
abbrev pub Levels : Type 0
Levels = (t : Tables) (H : Request → Bool) (s : ℕ) → IsCurrentLevel t H s (current_level t H s)

-- the test for a circle holds exactly where a way by pairs leads from a step to itself
abbrev pub Circles : Type 0
Circles = (t : Tables) → OfType t → (has_circle t ≡ true) ↔ ((p : ℕ) × Way (Enables t) p p)
