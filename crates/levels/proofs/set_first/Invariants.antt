-- `levels::set_first` stores one first level after another: before each turn those of the persons below the number reached are stored.
use Prim.Native.Nat.{◌-◌, ◌≤◌}
use mathlib.Core.Path.{◌≡◌}
use Rattle.levels.proofs.LevelLaws.{stored_below}
use Rattle.levels.proofs.set_first.Given as goal

abbrev pub invariant-loop-s : goal.invariant-loop-s
invariant-loop-s l =
    (l.s ≤ 64) × (l.l ≡ stored_below l.t l.s l.initial.l)

abbrev pub decreases-loop-s : goal.decreases-loop-s
decreases-loop-s l =
    64 - l.s
