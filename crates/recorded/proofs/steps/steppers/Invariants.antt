-- `steps::steppers` answers the set of the persons who stepped on a folder: after p turns it holds those who applied one of the steps
-- below p.
use Prim.Native.Nat.{◌-◌, ◌≤◌}
use mathlib.Core.Path.{◌≡◌}
use Rattle.recorded.proofs.Steppers.{steppers_below}
use Rattle.recorded.proofs.steps.steppers.Given as goal

abbrev pub invariant-loop-step : goal.invariant-loop-step
invariant-loop-step l =
    (l.step ≤ 16) × (l.set ≡ steppers_below l.h l.o l.step)

abbrev pub decreases-loop-step : goal.decreases-loop-step
decreases-loop-step l =
    16 - l.step
