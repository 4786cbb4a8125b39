-- `run_from` ends a run that has begun: whatever run it is, what is written and what the rest of the requests gives on the history and the
-- levels so far are at each turn what the whole run gives.
use Prim.Native.Nat.{ℕ, ◌-◌}
use mathlib.Core.Path.{◌≡◌}
use mathlib.Core.List.{List}
use lib.ListN.{length}
use Rattle.policy.specs.Calls.{State, state}
use Rattle.questions.specs.Judging.{Ready}
use Rattle.putting.specs.Running.{Done, Room}
use Rattle.putting.proofs.alone.run_from.Given as goal

abbrev pub invariant-loop-at : goal.invariant-loop-at
invariant-loop-at l =
    Room l.requests (length l.initial.answers) l.at l.i l.granted × (length l.answers ≡ length l.initial.answers) × Ready l.t.tables l.h l.l
    × ((a : State) (room : List ℕ) → length room ≡ length l.initial.answers → Done l.t.tables a l.requests room l.initial.at l.initial.i l.initial.granted (state l.initial.h l.initial.l) l.initial.answers
    → Done l.t.tables a l.requests room l.at l.i l.granted (state l.h l.l) l.answers)

abbrev pub decreases-loop-at : goal.decreases-loop-at
decreases-loop-at l =
    length l.requests - l.at
