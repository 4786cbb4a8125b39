-- `are_plannable` asks one job after another: before turn i each of the jobs below i can be planned.
use Prim.Native.Nat.{◌-◌, ◌≤◌}
use Rattle.planning.proofs.PlannableLaws.{PlannedBelow}
use Rattle.planning.proofs.are_plannable.Given as goal

abbrev pub invariant-loop-i : goal.invariant-loop-i
invariant-loop-i l =
    (l.i ≤ l.i-end) × PlannedBelow l.t l.jobs l.i

abbrev pub decreases-loop-i : goal.decreases-loop-i
decreases-loop-i l =
    l.i-end - l.i
