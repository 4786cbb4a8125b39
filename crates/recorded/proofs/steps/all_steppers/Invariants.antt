-- `steps::all_steppers` answers the steppers of each folder: before each turn those of the folders below the one reached are stored.
use Prim.Native.Nat.{◌-◌, ◌≤◌}
use Rattle.bits.specs.Bits.{mask_below}
use Rattle.recorded.specs.Gathering.{FirstAre}
use Rattle.recorded.specs.Recorded.{stepped_at}
use Rattle.recorded.proofs.steps.all_steppers.Given as goal

abbrev pub invariant-loop-o : goal.invariant-loop-o
invariant-loop-o l =
    (l.o ≤ 128) × FirstAre 128 l.o (λ o'. mask_below 64 (λ s. stepped_at l.h s o')) l.all

abbrev pub decreases-loop-o : goal.decreases-loop-o
decreases-loop-o l =
    128 - l.o
