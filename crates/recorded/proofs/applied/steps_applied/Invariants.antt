-- `applied::steps_applied` answers the steps that a person applied: after o turns it holds those of the folders below o, and where these
-- are all, the other folders add none.
use Prim.Native.Nat.{◌-◌, ◌≤◌}
use mathlib.Core.Path.{◌≡◌}
use Rattle.recorded.specs.Gathering.{applied_below}
use Rattle.recorded.proofs.applied.steps_applied.Given as goal

abbrev pub invariant-loop-o : goal.invariant-loop-o
invariant-loop-o l =
    (l.o ≤ 128) × (l.steps ≡ applied_below l.t l.h l.s l.o)

abbrev pub decreases-loop-o : goal.decreases-loop-o
decreases-loop-o l =
    128 - l.o
