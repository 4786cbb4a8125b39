-- The level buffer (document 02, Point 4): bytes, two for each person's current level.
use Rattle.std.specs.Prelude.{ℕ, ◌+◌, ◌*◌, ◌/◌, ◌%◌, cond, List, get_or, set}
use Rattle.bits.specs.Bounded.{fold_below}
use Rattle.level.specs.Levels.{meet_of}
use Rattle.policy.specs.declared.Tables.{Tables}
use Rattle.policy.specs.Tables.{person_at, folder_at, person_declared}
use Rattle.policy.specs.Request.{Request, read, write, start, step}

-- the bytes of a level buffer
abbrev pub levels_bytes : ℕ
levels_bytes = 128

-- the stored entry of person s: 2 bytes at 2 * s, low byte first
unfoldable pub level_at : List ℕ → ℕ → ℕ
level_at l s = get_or l (2 * s) 0 + 256 * get_or l (2 * s + 1) 0

-- the buffer with the entry of person s changed
unfoldable pub with_level_at : List ℕ → ℕ → ℕ → List ℕ
with_level_at l s level = set (set l (2 * s) (level % 256)) (2 * s + 1) (level / 256)

-- a person's first level; zero for the undeclared
unfoldable pub first_level : Tables → ℕ → ℕ
first_level t s = cond (person_declared t s) (person_at t s).level.0 0

-- the buffer with the first level of each person
unfoldable pub first_levels : Tables → List ℕ → List ℕ
first_levels t l = fold_below 64 (λ s m. with_level_at m s (first_level t s)) l

-- the entry of person s is met with the level of folder o
unfoldable pub met_with : Tables → List ℕ → ℕ → ℕ → List ℕ
met_with t l s o = with_level_at l s (meet_of 12 (level_at l s) (folder_at t o).level.0)

-- the buffer after a granted request: a read or a step lowers its person's entry
unfoldable pub lowered : Tables → List ℕ → Request → List ℕ
lowered t l (read s o) = met_with t l s o
lowered t l (write s o) = l
lowered t l (start s u) = l
lowered t l (step s p o) = met_with t l s o
