-- `add_steps` takes the folders one after another: before turn o the steps on those below o are in their sets.
use Prim.Native.Nat.{◌≤◌}
use Rattle.grouping.specs.Adding.{Added, applied_in}
use Rattle.grouping.proofs.words.add_steps.Given as goal

abbrev pub invariant-loop-o : goal.invariant-loop-o
invariant-loop-o l =
    (l.o ≤ 128) × Added (applied_in l.groups l.h l.o) l.initial.sets l.sets
