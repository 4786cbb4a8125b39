-- The level of a person over the bytes of a history: what a folder that was read or stepped on does to it, and some folders one after
-- another.
use Rattle.std.specs.Prelude.{ℕ, ◌+◌, Bool, cond}
use Rattle.bits.specs.Bits.{fold_set}
use Rattle.bits.specs.Bounded.{fold_below}
use Rattle.level.specs.Levels.{meet_of}
use Rattle.policy.specs.declared.Folder.{Folder}
use Rattle.policy.specs.declared.Tables.{Tables}
use Rattle.policy.specs.Tables.{folder_at}
use Rattle.recorded.specs.declared.Folders.{Folders}

-- the level after a folder with entry e, which lowers it if it is declared
unfoldable pub level_after : Folder → ℕ → ℕ
level_after e level = cond e.declared (meet_of 12 level e.level.0) level

-- the level after those of the n folders from `first` on that are in a set: bit i for folder first + i
unfoldable pub level_over : Tables → ℕ → ℕ → ℕ → ℕ → ℕ
level_over t set first n level = fold_set n set (λ i. level_after (folder_at t (first + i))) level

-- the level after the folders of a set
unfoldable pub level_by_set : Tables → Folders → ℕ → ℕ
level_by_set t set level = level_over t set.high 64 64 (level_over t set.low 0 64 level)

-- the level after the folders of which p holds
unfoldable pub level_by : Tables → (ℕ → Bool) → ℕ → ℕ
level_by t p level = fold_below 128 (λ o l. cond (p o) (level_after (folder_at t o) l) l) level
