-- `steps::stepped_over` answers the set of those of 64 folders whose steppers have a person among them: after i turns it holds those
-- below i.
use Prim.Native.Nat.{◌+◌, ◌-◌, ◌≤◌}
use mathlib.Core.Path.{◌≡◌}
use lib.ListN.{get_or}
use Rattle.bits.specs.Bits.{bit, mask_below}
use Rattle.recorded.proofs.steps.stepped_over.Given as goal

abbrev pub invariant-loop-i : goal.invariant-loop-i
invariant-loop-i l =
    (l.i ≤ 64) × (l.set ≡ mask_below l.i (λ i'. bit (get_or l.steppers (l.first + i') 0) l.s))

abbrev pub decreases-loop-i : goal.decreases-loop-i
decreases-loop-i l =
    64 - l.i
