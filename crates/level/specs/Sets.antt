-- A level as a set of bits: its rank in unary, a bit for each rank that it has reached, so that the smaller of two ranks is their common
-- part, as it is for compartments. A mark stands above both; a run sets it for an owner of the level that is not declared.
use Rattle.std.specs.Prelude.{ℕ, ◌+◌, ◌*◌, ◌-◌, ◌^◌, Bool, cond}
use Rattle.level.specs.Levels.{rank_of, compartments_of}

-- the set of a level of 16 bits: bits 0 to 14 are its rank, bits 15 to 26 its compartments, and bit 27 is the mark
unfoldable pub level_set : ℕ → Bool → ℕ
level_set a mark = (cond mark 1 0 * 2 ^ 12 + compartments_of 12 a) * 2 ^ 15 + (2 ^ rank_of 12 a - 1)
