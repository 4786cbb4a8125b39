-- The four rules as document 001 prints them (sections 4.1 to 4.4), with "there is" and "for all", as types; and, of document 02, the
-- levels held ready (Point 4) and why low-water refuses (Point 5).
use Rattle.std.specs.Prelude.{ℕ, ◌+◌, ◌*◌, ◌≤◌, ◌<◌, ◌≡◌, ◌⊎◌, ◌↔◌, ◌≢◌, Bool, true, false, List, get_or}
use Rattle.bits.specs.Bits.{bit}
use Rattle.level.specs.Levels.{rank_of, compartments_of, at_most}
use Rattle.policy.specs.declared.Tables.{Tables}
use Rattle.policy.specs.Request.{Request, read, write, start, step}
use Rattle.policy.specs.Tables.{firm_at, person_at, folder_at, role_at, enables, role_declared}
use Rattle.policy.specs.Rules.{declared}

-- ⟨s, o⟩: the request is an access of person s to folder o
abbrev pub Access : Request → ℕ → ℕ → Type 0
Access (read s o) s' o' = (s ≡ s') × (o ≡ o')
Access (write s o) s' o' = (s ≡ s') × (o ≡ o')
Access (start s u) s' o' = ⊥
Access (step s p o) s' o' = (s ≡ s') × (o ≡ o')

-- the request is a read or a step of person s on folder o, which lower the person's level
abbrev pub Observes : Request → ℕ → ℕ → Type 0
Observes (read s o) s' o' = (s ≡ s') × (o ≡ o')
Observes (write s o) s' o' = ⊥
Observes (start s u) s' o' = ⊥
Observes (step s p o) s' o' = (s ≡ s') × (o ≡ o')

-- the person whose request it is: of a start, the one who starts
abbrev pub requester : Request → ℕ
requester (read s o) = s
requester (write s o) = s
requester (start s u) = s
requester (step s p o) = s

-- a request's right: the folder's kind for read, 16 + kind for write, 32 for start, 48 + p for step
abbrev pub right_of : Tables → Request → ℕ
right_of t (read s o) = (folder_at t o).kind
right_of t (write s o) = 16 + (folder_at t o).kind
right_of t (start s u) = 32
right_of t (step s p o) = 48 + p

-- the class of rivals of a folder's firm
abbrev pub rivals_of : Tables → ℕ → ℕ
rivals_of t o = (firm_at t (folder_at t o).firm).class

-- the folder is not marked public
abbrev pub NotPublic : Tables → ℕ → Type 0
NotPublic t o = (folder_at t o).public ≡ false

-- rules in force: bit 0 of the mask wall, 1 low-water, 2 roles, 3 pipeline
abbrev pub WallInForce : Tables → Type 0
WallInForce t = bit t.mask 0 ≡ true

abbrev pub LowWaterInForce : Tables → Type 0
LowWaterInForce t = bit t.mask 1 ≡ true

abbrev pub RolesInForce : Tables → Type 0
RolesInForce t = bit t.mask 2 ≡ true

abbrev pub PipelineInForce : Tables → Type 0
PipelineInForce t = bit t.mask 3 ≡ true

module _ (t : Tables) (H : Request → Bool) where
  -- r ∈ H, the shallow history: granted, and of declared persons and folders
  abbrev pub InHistory : Request → Type 0
  InHistory r = (declared t r ≡ true) × (H r ≡ true)

  -- ⟨s, o⟩ ∈ H
  abbrev pub Accessed : ℕ → ℕ → Type 0
  Accessed s o = (r : Request) × InHistory r × Access r s o

  -- 4.1: there exists ⟨s, o'⟩ ∈ H such that group[o] = group[o'],
  -- or for all ⟨s, o'⟩ ∈ H, type[group[o]] ≠ type[group[o']];
  -- with document 02, Point 1: both over the folders o' that are not public, and asked of a folder o that is not public
  abbrev pub WallAccess : ℕ → ℕ → Type 0
  WallAccess s o =
      ((o' : ℕ) × Accessed s o' × NotPublic t o' × ((folder_at t o).firm ≡ (folder_at t o').firm))
      ⊎ ((o' : ℕ) → Accessed s o' → NotPublic t o' → rivals_of t o ≢ rivals_of t o')

  abbrev pub Wall : Request → Type 0
  Wall r = (s o : ℕ) → Access r s o → NotPublic t o → WallAccess s o

  -- read(s, o) ∈ H, or, with document 02, Point 2, a step by s on o: the person has read the folder or stepped on it
  abbrev pub Observed : ℕ → ℕ → Type 0
  Observed s o = InHistory (read s o) ⊎ ((p : ℕ) × InHistory (step s p o))

  -- c is at most the first level of s, and at most the level of every folder that s has read or stepped on
  abbrev pub BelowAll : ℕ → ℕ → Type 0
  BelowAll c s =
      (at_most 12 c (person_at t s).level.0 ≡ true)
      × ((o : ℕ) → Observed s o → at_most 12 c (folder_at t o).level.0 ≡ true)

  -- the level is a person's current level, the meet of the first level and the levels of all folders that the person has read or stepped
  -- on: what is at most it is what is at most each of these
  abbrev pub IsCurrentLevel : ℕ → ℕ → Type 0
  IsCurrentLevel s level = (c : ℕ) → (at_most 12 c level ≡ true) ↔ BelowAll c s

  -- 4.2, with the initial history: write is defined where l[o] ≤ l[o'] for all read(s, o') ∈ H, and l[o] ≤ the first level of s, and so
  -- is step (02, Point 2), with the folders o' stepped on beside those read; read always. Start is document 01's: rule 3 with meets,
  -- l[u] ≤ l[s] of the current levels.
  abbrev pub LowWater : Request → Type 0
  LowWater (read s o) = Unit {0}
  LowWater (write s o) = BelowAll (folder_at t o).level.0 s
  LowWater (start s u) = (a b : ℕ) → IsCurrentLevel u a → IsCurrentLevel s b → at_most 12 a b ≡ true
  LowWater (step s p o) = BelowAll (folder_at t o).level.0 s

  -- 4.3: H ∪ {r} ⊆ C for some class C of permitted accesses; a role permits the requests of one person whose rights are in it
  abbrev pub Roles : Request → Type 0
  Roles r =
      (k : ℕ) × (role_declared t k ≡ true)
      × ((q : Request) → (q ≡ r) ⊎ (InHistory q × (requester q ≡ requester r)) → bit (role_at t k).rights (right_of t q) ≡ true)

  -- ⟨p, o⟩ ∈ H: step p was applied to folder o, by anyone
  abbrev pub Applied : ℕ → ℕ → Type 0
  Applied p o = (s : ℕ) × InHistory (step s p o)

  -- 4.4, with document 01's step rule: create where no step was applied; any other step where for some p
  -- ⟨p, o⟩ ∈ H, and p enables it, and there is no p'' such that ⟨p'', o⟩ ∈ H and p enables p''
  abbrev pub Pipeline : Request → Type 0
  Pipeline (read s o) = Unit {0}
  Pipeline (write s o) = Unit {0}
  Pipeline (start s u) = Unit {0}
  Pipeline (step s q o) =
      ((q ≡ 0) × ((p : ℕ) → Applied p o → ⊥))
      ⊎ ((q ≢ 0)
      × ((p : ℕ) × Applied p o × (enables t p q ≡ true) × ((p'' : ℕ) → Applied p'' o → enables t p p'' ≡ true → ⊥)))

-- the level held ready for person s in a level buffer (document 02, Point 4): 2 bytes at 2 × s, low byte first
abbrev pub held_level : List ℕ → ℕ → ℕ
held_level levels s = get_or levels (2 * s) 0 + 256 * get_or levels (2 * s + 1) 0

-- low-water, read with the levels in the buffer, whatever the history gives
abbrev pub LowWaterHeld : Tables → List ℕ → Request → Type 0
LowWaterHeld t levels (read s o) = Unit {0}
LowWaterHeld t levels (write s o) = at_most 12 (folder_at t o).level.0 (held_level levels s) ≡ true
LowWaterHeld t levels (start s u) = at_most 12 (held_level levels u) (held_level levels s) ≡ true
LowWaterHeld t levels (step s p o) = at_most 12 (folder_at t o).level.0 (held_level levels s) ≡ true

-- ---- why low-water refuses (document 02, Point 5)

-- level a must be at most level b, and the rank of b is too low, also if a compartment is missing besides
abbrev pub LacksRank : ℕ → ℕ → Type 0
LacksRank a b = rank_of 12 b < rank_of 12 a

-- or the rank of b suffices, and a compartment is missing: one of a that b has not
abbrev pub LacksCompartment : ℕ → ℕ → Type 0
LacksCompartment a b =
    (rank_of 12 a ≤ rank_of 12 b)
    × ((k : ℕ) × (bit (compartments_of 12 a) k ≡ true) × (bit (compartments_of 12 b) k ≡ false))

-- P holds of the two levels that low-water compares, where `IsLevel s b` says that b is the level of person s: for a write or a step the
-- folder's and the person's, for a start those of the one started and of the one who starts; for a read it compares none
abbrev pub Compared : Tables → (ℕ → ℕ → Type 0) → (ℕ → ℕ → Type 0) → Request → Type 0
Compared t IsLevel P (read s o) = ⊥
Compared t IsLevel P (write s o) = (b : ℕ) × IsLevel s b × P (folder_at t o).level.0 b
Compared t IsLevel P (start s u) = (a : ℕ) × (b : ℕ) × IsLevel u a × IsLevel s b × P a b
Compared t IsLevel P (step s p o) = (b : ℕ) × IsLevel s b × P (folder_at t o).level.0 b

-- b is the level held ready for person s
abbrev pub IsHeldLevel : List ℕ → ℕ → ℕ → Type 0
IsHeldLevel levels s b = b ≡ held_level levels s
