-- `add_steps_on` joins the words of the steps one after another: before turn p those of the steps below p are in their sets.
use Prim.Native.Nat.{◌≤◌}
use Rattle.grouping.specs.Adding.{Added, applied_to}
use Rattle.grouping.proofs.words.add_steps_on.Given as goal

abbrev pub invariant-loop-p : goal.invariant-loop-p
invariant-loop-p l =
    (l.p ≤ 16) × Added (applied_to l.h l.o l.p) l.initial.sets l.sets
