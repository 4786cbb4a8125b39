-- `sides` stores what is looked up one job after another: before turn i the sides of the jobs below i.
use Prim.Native.Nat.{◌-◌, ◌≤◌}
use Rattle.listed.specs.Pairs.{SidesOf}
use Rattle.listed.proofs.pairs.sides.Given as goal

abbrev pub invariant-loop-i : goal.invariant-loop-i
invariant-loop-i l =
    (l.i ≤ l.n) × SidesOf l.t l.jobs l.i l.all

abbrev pub decreases-loop-i : goal.decreases-loop-i
decreases-loop-i l =
    l.n - l.i
