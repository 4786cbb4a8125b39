-- The turns of the pass over a history's bytes: what one folder adds to what a person did, and what the starts and the steps add.
use Rattle.std.specs.Prelude.{ℕ, ◌+◌, ◌*◌, ◌^◌, Bool, cond, List}
use Rattle.std.specs.Int.Bits.{bit_or}
use Rattle.bits.specs.Bits.{bit, with_bit, fold_set}
use Rattle.policy.specs.declared.Folder.{Folder}
use Rattle.policy.specs.declared.Tables.{Tables}
use Rattle.policy.specs.Tables.{folder_at}
use Rattle.recorded.specs.Recorded.{with_bit_if, read_at, written_at}
use Rattle.past.specs.declared.Past.{Past}

-- the rights after a folder whose entry is e and which was read and written or not, if it is declared
unfoldable pub rights_after : Folder → Bool → Bool → ℕ → ℕ
rights_after e was_read was_written before =
    cond e.declared (with_bit_if was_written (with_bit_if was_read before e.kind) (16 + e.kind)) before

-- the same of folder first + i, with bit i of two words
unfoldable pub rights_turn : Tables → ℕ → ℕ → ℕ → ℕ → ℕ → ℕ
rights_turn t first reads writes i = rights_after (folder_at t (first + i)) (bit reads i) (bit writes i)

-- the rights after those of 64 folders that are in one of two words
unfoldable pub rights_visiting : Tables → ℕ → ℕ → ℕ → ℕ → ℕ
rights_visiting t first reads writes = fold_set 64 (bit_or reads writes) (rights_turn t first reads writes)

-- what the person did after a folder whose entry is e and which was read and written or not, if it is declared: without the rights of steps
unfoldable pub past_with : Folder → Bool → Bool → Past → Past
past_with e was_read was_written before =
    cond e.declared
    (record {
      rights = with_bit_if was_written (with_bit_if was_read before.rights e.kind) (16 + e.kind);
      firms = with_bit before.firms e.firm;
    })
    before

-- the same of folder o of the tables, with its bits in the history
unfoldable pub past_after : Tables → List ℕ → ℕ → ℕ → Past → Past
past_after t h s o = past_with (folder_at t o) (read_at h s o) (written_at h s o)

-- the same of folder first + i, with bit i of two words
unfoldable pub past_turn : Tables → ℕ → ℕ → ℕ → ℕ → Past → Past
past_turn t first reads writes i = past_with (folder_at t (first + i)) (bit reads i) (bit writes i)

-- what the person did after those of the 64 folders from `first` on that are in a set
unfoldable pub past_visiting : Tables → ℕ → ℕ → ℕ → ℕ → Past → Past
past_visiting t first reads writes set before = fold_set 64 set (past_turn t first reads writes) before

-- the rights, with those of a set of steps and that of starts
unfoldable pub rights_with : ℕ → ℕ → Bool → ℕ
rights_with rights steps starts = with_bit_if starts (bit_or rights (steps * 2 ^ 48)) 32
