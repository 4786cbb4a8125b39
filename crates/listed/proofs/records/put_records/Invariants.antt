-- `put_records` writes one record behind the other: before turn k those of the first k positions are written.
use Prim.Native.Nat.{◌-◌, ◌≤◌}
use lib.ListN.{length}
use Rattle.listed.proofs.RecordLaws.{Reached}
use Rattle.listed.proofs.records.put_records.Given as goal

abbrev pub invariant-loop-k : goal.invariant-loop-k
invariant-loop-k l =
    (l.k ≤ l.n) × Reached l.jobs l.positions l.k l.at (length l.initial.out) l.out

abbrev pub decreases-loop-k : goal.decreases-loop-k
decreases-loop-k l =
    l.n - l.k
