-- `persons` is the set of the declared persons: before each turn it has those below the number reached.
use Prim.Native.Nat.{◌-◌, ◌≤◌}
use mathlib.Core.Path.{◌≡◌}
use Rattle.bits.specs.Bits.{mask_below}
use Rattle.policy.specs.Tables.{person_declared}
use Rattle.past.proofs.persons.Given as goal

abbrev pub invariant-loop-s : goal.invariant-loop-s
invariant-loop-s l =
    (l.s ≤ 64) × (l.set ≡ mask_below l.s (person_declared l.t))

abbrev pub decreases-loop-s : goal.decreases-loop-s
decreases-loop-s l =
    64 - l.s
