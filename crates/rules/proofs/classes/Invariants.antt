-- `classes` gathers the sets of the firms of each class: before each turn they have the firms below the number reached.
use Prim.Native.Nat.{◌-◌, ◌≤◌}
use Rattle.rules.proofs.ClassLaws.{ClassesBelow}
use Rattle.rules.proofs.classes.Given as goal

abbrev pub invariant-loop-f : goal.invariant-loop-f
invariant-loop-f l =
    (l.f ≤ 64) × ClassesBelow l.t.tables l.f l.sets

abbrev pub decreases-loop-f : goal.decreases-loop-f
decreases-loop-f l =
    64 - l.f
