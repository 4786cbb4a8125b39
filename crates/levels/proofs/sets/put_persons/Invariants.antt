-- `sets::put_persons` stores the set of each person: before each turn those of the persons below the number reached are at their places.
use Prim.Native.Nat.{◌-◌, ◌≤◌}
use mathlib.Core.Path.{◌≡◌}
use Rattle.bits.specs.Filling.{Filled}
use Rattle.levels.specs.Sets.{person_set}
use Rattle.levels.proofs.sets.put_persons.Given as goal

abbrev pub invariant-loop-s : goal.invariant-loop-s
invariant-loop-s l =
    (l.s ≤ 64) × Filled 0 l.s (λ s' x. x ≡ person_set l.t l.l s') l.initial.sets l.sets

abbrev pub decreases-loop-s : goal.decreases-loop-s
decreases-loop-s l =
    64 - l.s
