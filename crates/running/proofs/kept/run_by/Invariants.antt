-- `run_by` comes to where the whole records end: at each turn, what is taken and what the rest of the requests gives on the history and
-- the levels so far are what the whole run gives, what is kept is what they give, and before the end a whole record stands; from the end
-- on none does.
use Prim.Native.Nat.{◌-◌}
use Rattle.policy.specs.Calls.{state}
use Rattle.putting.proofs.WholeRecords.{Left}
use Rattle.running.specs.Taking.{Taken}
use Rattle.running.proofs.kept.run_by.Given as goal

abbrev pub invariant-loop-at : goal.invariant-loop-at
invariant-loop-at g l =
    Taken g.W.Taking.room g.W.Taking.so_far l.t.tables (state l.initial.h l.l) l.requests l.initial.told l.at l.answered l.granted
    l.h l.told l.kept
    × Left l.requests l.at

abbrev pub decreases-loop-at : goal.decreases-loop-at
decreases-loop-at g l =
    l.end - l.at
