-- `sort` takes a free place in each turn: before turn k the first k positions are places taken, in order, and the others are pending.
use Prim.Native.Nat.{◌-◌, ◌^◌, ◌≤◌, ◌<◌}
use Rattle.sorting.proofs.Turns.{Taken}
use Rattle.sorting.proofs.sort.Given as goal

abbrev pub invariant-loop-k : goal.invariant-loop-k
invariant-loop-k l =
    (l.k ≤ l.n) × (l.pending < 2 ^ 64) × Taken l.rows l.n l.k l.positions l.pending

abbrev pub decreases-loop-k : goal.decreases-loop-k
decreases-loop-k l =
    l.n - l.k
