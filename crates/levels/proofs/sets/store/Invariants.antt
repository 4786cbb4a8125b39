-- `sets::store` gives the buffer whose levels the sets are: before each turn the bytes of the persons below the number reached are.
use Prim.Native.Nat.{ℕ, ◌-◌, ◌≤◌}
use mathlib.Core.Path.{◌≡◌}
use mathlib.Core.List.{List}
use lib.ListN.{length}
use Rattle.policy.specs.Levels.{levels_bytes}
use Rattle.levels.specs.Sets.{LevelBuffer, HoldsLevels}
use Rattle.levels.proofs.SetLaws.{SameBelow}
use Rattle.levels.proofs.sets.store.Given as goal

abbrev pub invariant-loop-s : goal.invariant-loop-s
invariant-loop-s l =
    (l.s ≤ 64) × (length l.l ≡ levels_bytes) × ((m : List ℕ) → LevelBuffer m → HoldsLevels l.sets m → SameBelow l.s l.l m)

abbrev pub decreases-loop-s : goal.decreases-loop-s
decreases-loop-s l =
    64 - l.s
