-- `first_free` takes the pending places from the lowest on: before each turn those that are not left were passed.
use Prim.Native.Nat.{◌≤◌}
use Rattle.sorting.proofs.Searching.{Searched}
use Rattle.sorting.proofs.first_free.Given as goal

abbrev pub invariant-loop-i : goal.invariant-loop-i
invariant-loop-i l =
    (l.i-iterator.0 ≤ l.pending) × Searched l.rows l.pending l.i-iterator.0
