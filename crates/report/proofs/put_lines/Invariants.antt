-- `report::put_lines` puts the lines from a place on into a buffer: each turn puts one more, and the loop ends where there is no number or
-- no room for a line any more.
use Prim.Native.Nat.{◌-◌}
use lib.ListN.{length}
use Rattle.report.proofs.FillingLaws.{Reached}
use Rattle.report.proofs.put_lines.Given as goal

abbrev pub invariant-loop-next : goal.invariant-loop-next
invariant-loop-next l =
    Reached l.numbers l.first l.initial.out l.out l.next l.len

abbrev pub decreases-loop-next : goal.decreases-loop-next
decreases-loop-next l =
    length l.numbers - l.next
