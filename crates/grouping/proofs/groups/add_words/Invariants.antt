-- `add_words` joins the words one after another: before turn i those of the first i folders are in the sets of their groups.
use Prim.Native.Nat.{◌≤◌}
use Rattle.grouping.specs.Adding.{Added, grouped}
use Rattle.grouping.proofs.groups.add_words.Given as goal

abbrev pub invariant-loop-i : goal.invariant-loop-i
invariant-loop-i l =
    (l.i ≤ 64) × Added (grouped l.groups l.first l.above l.words l.i) l.initial.sets l.sets
