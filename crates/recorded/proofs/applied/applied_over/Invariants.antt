-- `applied::applied_over` answers the steps applied up to the last of 64 folders: before each turn the folders that are left lead to them.
use Prim.Native.Nat.{◌+◌}
use Rattle.recorded.specs.Gathering.{applied_below, applied_after}
use Rattle.recorded.specs.Visits.{Leads}
use Rattle.recorded.proofs.applied.applied_over.Given as goal

abbrev pub invariant-loop-i : goal.invariant-loop-i
invariant-loop-i l =
    Leads (λ i. applied_after l.t l.h l.s (l.first + i)) (applied_below l.t l.h l.s (l.first + 64)) l.i-iterator.0 l.steps
