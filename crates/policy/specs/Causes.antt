-- Document 01's table of causes, with document 02's numbers. A row is a number and its cause, as a type; the rows of a call stand in the
-- order of its checks. What is said here is written from the table and the text, and not from the definitions of the calls.
use Rattle.std.specs.Prelude.{ℕ, ◌≤◌, ◌<◌, ◌≡◌, ◌⊎◌, ◌≢◌, true, List, [], ◌∷◌, ◌++◌, length}
use Rattle.policy.specs.declared.Tables.{Tables}
use Rattle.policy.specs.Tables.{person_at, folder_at}
use Rattle.policy.specs.Request.{Request, read, write, start, step, set_of}
use Rattle.policy.specs.Calls.{State}
use Rattle.policy.specs.Published.{
  WallInForce,
  LowWaterInForce,
  RolesInForce,
  PipelineInForce,
  Wall,
  Roles,
  Pipeline,
  LacksRank,
  LacksCompartment,
  Compared,
}
use Rattle.policy.specs.Given.{LoadGives}

-- a row of the table
pub record Cause : Type 1 where
  pub number : ℕ
  pub holds : Type 0

infix 18 ◌when◌
abbrev pub ◌when◌ : ℕ → Type 0 → Cause
n when cause = record { number = n; holds = cause }

-- n is the number of the first row whose cause holds; 0 where none holds
unfoldable pub Answer : List Cause → ℕ → Type 0
Answer [] n = n ≡ 0
Answer (c ∷ cs) n = (c.holds × (n ≡ c.number)) ⊎ ((c.holds → ⊥) × Answer cs n)

-- ---- requests

-- a request record is kind and body: 16 read (person, folder), 17 write, 18 start (person, person), 19 step (person, step, folder)
abbrev pub record_bytes : Request → List ℕ
record_bytes (read s o) = 16 ∷ s ∷ o ∷ []
record_bytes (write s o) = 17 ∷ s ∷ o ∷ []
record_bytes (start s u) = 18 ∷ s ∷ u ∷ []
record_bytes (step s p o) = 19 ∷ s ∷ p ∷ o ∷ []

-- the record of r stands at the front of the bytes, with `rest` after it
abbrev pub AtFront : Request → List ℕ → List ℕ → Type 0
AtFront r bytes rest = bytes ≡ record_bytes r ++ rest

-- P holds of the request whose record stands at the front of the bytes
abbrev pub RequestAtFront : List ℕ → (Request → Type 0) → Type 0
RequestAtFront bytes P = (r : Request) × (rest : List ℕ) × AtFront r bytes rest × P r

-- no record stands at the front: the request's kind is unknown, or the record is cut
abbrev pub NoRequest : List ℕ → Type 0
NoRequest bytes = RequestAtFront bytes (λ r. Unit {0}) → ⊥

-- the parties are declared, and a step is at most 15
abbrev pub IsPerson : Tables → ℕ → Type 0
IsPerson t s = (s < 64) × ((person_at t s).declared ≡ true)

abbrev pub IsFolder : Tables → ℕ → Type 0
IsFolder t o = (o < 128) × ((folder_at t o).declared ≡ true)

abbrev pub PartiesDeclared : Tables → Request → Type 0
PartiesDeclared t (read s o) = IsPerson t s × IsFolder t o
PartiesDeclared t (write s o) = IsPerson t s × IsFolder t o
PartiesDeclared t (start s u) = IsPerson t s × IsPerson t u
PartiesDeclared t (step s p o) = IsPerson t s × (p ≤ 15) × IsFolder t o

-- the puts of a run: one for each record, up to the end or the first record that is unknown or cut, which is the last
pub data Turns : List ℕ → List (List ℕ) → Type 0 where
  no_record : Turns [] []
  last : {b : ℕ} {bytes : List ℕ} → NoRequest (b ∷ bytes) → Turns (b ∷ bytes) ((b ∷ bytes) ∷ [])
  turn :
      (r : Request) {bytes rest : List ℕ} {calls : List (List ℕ)} → AtFront r bytes rest → Turns rest calls
      → Turns bytes (bytes ∷ calls)

-- ---- the rows of each call

-- what every call on tables, a history and levels has first; blank has no other
abbrev pub call_causes : Tables → State → List Cause
call_causes t a =
    (10 when (length a.history ≢ 18944))
    ∷ (20 when (length a.levels ≢ 128))
    ∷ (11 when (LoadGives t → ⊥))
    ∷ []

-- judge and put, with the levels of persons as they are read; 21 stands in the place of 15
abbrev pub judge_causes : Tables → State → List ℕ → (ℕ → ℕ → Type 0) → List Cause
judge_causes t a bytes IsLevel =
    call_causes t a
    ++ (12 when NoRequest bytes)
    ∷ (13 when RequestAtFront bytes (λ r. PartiesDeclared t r → ⊥))
    ∷ (14 when RequestAtFront bytes (λ r. WallInForce t × (Wall t (set_of a.history) r → ⊥)))
    ∷ (15 when RequestAtFront bytes (λ r. LowWaterInForce t × Compared t IsLevel LacksRank r))
    ∷ (21 when RequestAtFront bytes (λ r. LowWaterInForce t × Compared t IsLevel LacksCompartment r))
    ∷ (16 when RequestAtFront bytes (λ r. RolesInForce t × (Roles t (set_of a.history) r → ⊥)))
    ∷ (17 when RequestAtFront bytes (λ r. PipelineInForce t × (Pipeline t (set_of a.history) r → ⊥)))
    ∷ []

abbrev pub run_causes : Tables → State → List ℕ → List ℕ → List Cause
run_causes t a requests answers =
    call_causes t a
    ++ (18 when ((calls : List (List ℕ)) × Turns requests calls × (length answers < length calls)))
    ∷ []

abbrev pub standing_causes : Tables → State → ℕ → List Cause
standing_causes t a s = call_causes t a ++ (13 when (IsPerson t s → ⊥)) ∷ []
