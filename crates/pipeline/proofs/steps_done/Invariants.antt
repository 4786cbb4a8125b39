-- `steps_done` is the mask of steps that some of the persons did: before each turn it has those below the number reached, each by one
-- word of the history.
use Prim.Native.Nat.{◌≤◌}
use mathlib.Core.Path.{◌≡◌}
use Rattle.bits.specs.Bits.{mask_below}
use Rattle.pipeline.specs.Steps.{done_by}
use Rattle.pipeline.proofs.steps_done.Given as goal

abbrev pub invariant-loop-p : goal.invariant-loop-p
invariant-loop-p l =
    (l.p ≤ 16) × (l.done ≡ mask_below l.p (done_by l.h l.persons l.o))
