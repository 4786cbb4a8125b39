-- After i turns the first i jobs are packed, in a `Packed` that has the length of the whole list from the start.
use Rattle.std.proofs.Common.{length, ◌-◌, ◌≡◌, ◌≤◌}
use Rattle.jobs.proofs.PackingLaws.{up_to}
use Rattle.jobs.proofs.pack.Given as goal

abbrev pub invariant-loop-i : goal.invariant-loop-i
invariant-loop-i l = (l.i ≤ length l.jobs) × (l.p ≡ up_to l.jobs l.i)

abbrev pub decreases-loop-i : goal.decreases-loop-i
decreases-loop-i l = length l.jobs - l.i
