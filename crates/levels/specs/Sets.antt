-- The levels of a run as sets of bits: those of the persons, then those of the folders, each marked where its owner is not declared.
use Rattle.std.specs.Prelude.{ℕ, ◌+◌, ◌<◌, ◌≡◌, Bool, not, List, length, get_or}
use Rattle.level.specs.Sets.{level_set}
use Rattle.policy.specs.declared.Tables.{Tables}
use Rattle.policy.specs.Tables.{person_at, folder_at}
use Rattle.policy.specs.Levels.{levels_bytes, level_at}

-- the set of person s, from a level buffer
abbrev pub person_set : Tables → List ℕ → ℕ → ℕ
person_set t l s = level_set (level_at l s) (not (person_at t s).declared)

-- the set of folder o
abbrev pub folder_set : Tables → ℕ → ℕ
folder_set t o = level_set (folder_at t o).level.0 (not (folder_at t o).declared)

-- a level buffer: its size, and that each of its numbers is a byte
pub record LevelBuffer (l : List ℕ) : Type 0 where
  pub size : length l ≡ levels_bytes
  pub bytes : (i : ℕ) → get_or l i 0 < 256

-- the set of person s stands at s, that of folder o at 64 + o; all levels have 16 bits
pub record LevelSets (t : Tables) (l sets : List ℕ) : Type 0 where
  pub size : length sets ≡ 192
  pub buffer : LevelBuffer l
  pub persons : (s : ℕ) → s < 64 → get_or sets s 0 ≡ person_set t l s
  pub folders : (o : ℕ) → o < 128 → get_or sets (64 + o) 0 ≡ folder_set t o
  pub levels : (o : ℕ) → o < 128 → (folder_at t o).level.0 < 65536

-- the first 64 sets are those of the levels in a buffer, marked or not
pub record HoldsLevels (sets l : List ℕ) : Type 0 where
  pub persons : (s : ℕ) → s < 64 → (mark : Bool) × (get_or sets s 0 ≡ level_set (level_at l s) mark)
