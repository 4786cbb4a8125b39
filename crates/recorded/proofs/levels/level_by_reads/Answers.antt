-- `levels::level_by_reads` answers the level after the folders read: the two words of the person's reads say which these are.
use native.Mathlib.Omega.{arith}
use mathlib.Core.Path.{◌≡◌}
use Prim.Native.Nat.{ℕ, ◌+◌, ◌*◌, ◌<◌}
use mathlib.Core.List.{List}
use lib.ListN.{get_or}
use Rattle.policy.specs.declared.Tables.{Tables}
use Rattle.packed.specs.Packed.{tables_of}
use Rattle.history.specs.Words.{word_at}
use Rattle.recorded.specs.Recorded.{read_at}
use Rattle.recorded.specs.Levels.{level_over, level_by}
use Rattle.recorded.proofs.LevelLaws as laws
use Rattle.recorded.proofs.levels.level_by_reads.Goals as goal

answer : (t : Tables) (h : List ℕ) (s before : ℕ) → ((i : ℕ) → get_or h i 0 < 256) → {first second low level : ℕ}
    → first ≡ word_at h (16 * s) → low ≡ level_over t first 0 64 before → second ≡ word_at h (16 * s + 8)
    → level ≡ level_over t second 64 64 low → level ≡ level_by t (read_at h s) before
answer t h s before small f l g r = rw (r, l, g, f) (laws.level_by_reads_lem t h s small before)

pub word_at-requires : goal.word_at-requires
word_at-requires c = omega arith

pub word_at-requires-2 : goal.word_at-requires-2
word_at-requires-2 c = omega arith

pub returns : goal.returns
returns c =
    let args = c.args in
    answer (tables_of args.t.now) args.h.now args.s args.before.0 c.fits-h
    c.word_at.ensures c.level_over-low.ensures c.word_at-2.ensures
    c.level_over.ensures
