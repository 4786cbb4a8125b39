-- `extent_of` counts a record for each turn, and comes to where no whole record stands: the count and the answers due for the rest of the
-- requests are always the answers due for all of them, and the turns that are left come to where the whole records end.
use Prim.Native.Nat.{◌+◌, ◌-◌, ◌≤◌}
use mathlib.Core.Path.{◌≡◌}
use lib.ListN.{length, drop}
use Rattle.policy.specs.Calls.{answers_due}
use Rattle.putting.proofs.WholeRecords.{Left}
use Rattle.putting.proofs.extent_of.Given as goal

abbrev pub invariant-loop-at : goal.invariant-loop-at
invariant-loop-at l =
    (l.at ≤ length l.requests) × (l.due ≤ l.at) × (l.due + answers_due (drop l.at l.requests) ≡ answers_due l.requests) × Left l.requests l.at

abbrev pub decreases-loop-at : goal.decreases-loop-at
decreases-loop-at l =
    length l.requests - l.at
