-- `steps::steps_of` answers the set of the steps that a person applied to a folder: after p turns it holds the steps below p, shifted up by
-- the number of the person's bit, and at the end it is shifted down.
use Prim.Native.Nat.{◌-◌, ◌≤◌}
use mathlib.Core.Path.{◌≡◌}
use Rattle.recorded.proofs.StepLaws.{steps_below}
use Rattle.recorded.proofs.steps.steps_of.Given as goal

abbrev pub invariant-loop-p : goal.invariant-loop-p
invariant-loop-p l =
    (l.p ≤ 16) × (l.steps ≡ steps_below l.h l.s l.o l.p)

abbrev pub decreases-loop-p : goal.decreases-loop-p
decreases-loop-p l =
    16 - l.p
