-- Document 02, Point 2, as claims about what the calls return: a step alters the folder, so it needs of the levels what a write needs, and
-- it lowers its person as a read does. They hold on every history and level buffer and under every mask, and speak of the level that
-- standing gives, which is the stored one, and then of the level that a history gives.
use Rattle.std.specs.Prelude.{ℕ, ◌≤◌, ◌≡◌, ◌⊎◌, ◌↔◌, true, false, List}
use Rattle.level.specs.Levels.{at_most, meet_of}
use Rattle.policy.specs.declared.Tables.{Tables}
use Rattle.policy.specs.Tables.{person_at, folder_at}
use Rattle.policy.specs.Request.{Request, read, write, start, step, set_of}
use Rattle.policy.specs.Rules.{current_level}
use Rattle.policy.specs.Calls.{State, blank_number, blank_state, judge_number, put_state, standing}
use Rattle.policy.specs.Published.{LowWaterInForce, Observes}
use Rattle.policy.specs.Causes.{AtFront, PartiesDeclared}

-- a number with which low-water refuses: 15, and 21 (document 02, Point 5)
abbrev pub OfLowWater : ℕ → Type 0
OfLowWater n = (n ≡ 15) ⊎ (n ≡ 21)

-- the record of r does not stand at the front of the bytes
abbrev pub NotAtFront : Request → List ℕ → Type 0
NotAtFront r bytes = (rest : List ℕ) → AtFront r bytes rest → ⊥

-- the level of person s in standing is the meet of the one before and the level of folder o
abbrev pub LoweredBy : Tables → State → State → ℕ → ℕ → Type 0
LoweredBy t before after s o = (standing t after s).level.0 ≡ meet_of 12 (standing t before s).level.0 (folder_at t o).level.0

-- the level that the history gives to person s
abbrev pub given_level : Tables → State → ℕ → ℕ
given_level t a s = current_level t (set_of a.history) s

pub record StepsAlter : Type 0 where
  -- "a step needs folder level ≤ current level, as a write does": low-water refuses a step exactly where it refuses a write, and with the
  -- same number
  pub as_write :
      (t : Tables) (a : State) (bytes bytes' rest rest' : List ℕ) (s p o n : ℕ) → p ≤ 15 → AtFront (step s p o) bytes rest
      → AtFront (write s o) bytes' rest' → OfLowWater n → (judge_number t a bytes ≡ n) ↔ (judge_number t a bytes' ≡ n)
  -- the level that counts is the current one, before the step: a step granted under low-water has a folder level at most that of standing,
  -- and one refused by low-water has not
  pub granted :
      (t : Tables) (a : State) (bytes rest : List ℕ) (s p o : ℕ) → AtFront (step s p o) bytes rest → LowWaterInForce t
      → judge_number t a bytes ≡ 0 → at_most 12 (folder_at t o).level.0 (standing t a s).level.0 ≡ true
  pub refused :
      (t : Tables) (a : State) (bytes rest : List ℕ) (s p o : ℕ) → AtFront (step s p o) bytes rest
      → OfLowWater (judge_number t a bytes) → at_most 12 (folder_at t o).level.0 (standing t a s).level.0 ≡ false
  -- a start is judged by the same levels, those that standing gives to both persons
  pub start_granted :
      (t : Tables) (a : State) (bytes rest : List ℕ) (s u : ℕ) → AtFront (start s u) bytes rest → LowWaterInForce t
      → judge_number t a bytes ≡ 0 → at_most 12 (standing t a u).level.0 (standing t a s).level.0 ≡ true
  pub start_refused :
      (t : Tables) (a : State) (bytes rest : List ℕ) (s u : ℕ) → AtFront (start s u) bytes rest
      → OfLowWater (judge_number t a bytes) → at_most 12 (standing t a u).level.0 (standing t a s).level.0 ≡ false
  -- "a step granted also lowers the person as a read does", whatever rules are in force
  pub lowers :
      (t : Tables) (a : State) (bytes rest : List ℕ) (s p o : ℕ) → AtFront (step s p o) bytes rest → judge_number t a bytes ≡ 0
      → LoweredBy t a (put_state t a bytes) s o
  pub as_read :
      (t : Tables) (a : State) (bytes rest : List ℕ) (s o : ℕ) → AtFront (read s o) bytes rest → judge_number t a bytes ≡ 0
      → LoweredBy t a (put_state t a bytes) s o
  -- nothing else lowers a person: a put that is no read and no step of that person leaves the level, and from blank it is the first one
  pub leaves :
      (t : Tables) (a : State) (bytes : List ℕ) (s : ℕ) → ((o : ℕ) → NotAtFront (read s o) bytes)
      → ((p o : ℕ) → NotAtFront (step s p o) bytes)
      → (standing t (put_state t a bytes) s).level.0 ≡ (standing t a s).level.0
  pub first :
      (t : Tables) (a : State) (s : ℕ) → (standing t (blank_state t a) s).number ≡ 0
      → (standing t (blank_state t a) s).level.0 ≡ (person_at t s).level.0
  -- the level that a history gives moves alike: a granted read or step meets it with the folder's, any other put leaves it, and a blank
  -- history gives the first one
  pub given :
      (t : Tables) (a : State) (bytes rest : List ℕ) (r : Request) (s o : ℕ) → AtFront r bytes rest → Observes r s o
      → judge_number t a bytes ≡ 0 → given_level t (put_state t a bytes) s ≡ meet_of 12 (given_level t a s) (folder_at t o).level.0
  pub given_leaves :
      (t : Tables) (a : State) (bytes : List ℕ) (s : ℕ) → ((o : ℕ) → NotAtFront (read s o) bytes)
      → ((p o : ℕ) → NotAtFront (step s p o) bytes) → given_level t (put_state t a bytes) s ≡ given_level t a s
  pub given_first : (t : Tables) (a : State) (s : ℕ) → blank_number t a ≡ 0 → given_level t (blank_state t a) s ≡ (person_at t s).level.0
  -- and requests of undeclared persons and folders lower nobody: histories that differ in such requests alone give the same level
  pub passed_over :
      (t : Tables) (a b : State) (s : ℕ) → ((q : Request) → PartiesDeclared t q → set_of a.history q ≡ set_of b.history q)
      → given_level t a s ≡ given_level t b s
