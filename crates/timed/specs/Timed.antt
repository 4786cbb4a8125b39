-- What the timed function returns: the level after the folders that a person read.
use Rattle.std.specs.Prelude.{ℕ, cond, List, eqb, ltb, length}
use Rattle.policy.specs.History.{history_bytes}
use Rattle.packed.specs.Packed.{tables_of}
use Rattle.recorded.specs.Recorded.{read_at}
use Rattle.recorded.specs.Levels.{level_by}

-- the level after the folders that the person's sixteen bytes name, from the level before; without such bytes it stays
unfoldable pub level_by_reads : List ℕ → List ℕ → ℕ → ℕ → ℕ
level_by_reads words h person before =
    cond (eqb (length h) history_bytes) (cond (ltb person 64) (level_by (tables_of words) (read_at h person) before) before) before
