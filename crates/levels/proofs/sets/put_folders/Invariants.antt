-- `sets::put_folders` stores the set of each folder: before each turn those of the folders below the number reached are at their places.
use Prim.Native.Nat.{◌-◌, ◌≤◌, ◌<◌}
use mathlib.Core.Path.{◌≡◌}
use Rattle.bits.specs.Filling.{Filled}
use Rattle.policy.specs.Tables.{folder_at}
use Rattle.levels.specs.Sets.{folder_set}
use Rattle.levels.proofs.sets.put_folders.Given as goal

abbrev pub invariant-loop-o : goal.invariant-loop-o
invariant-loop-o l =
    (l.o ≤ 128) × Filled 64 l.o (λ o' x. (x ≡ folder_set l.t o') × ((folder_at l.t o').level.0 < 65536)) l.initial.sets l.sets

abbrev pub decreases-loop-o : goal.decreases-loop-o
decreases-loop-o l =
    128 - l.o
