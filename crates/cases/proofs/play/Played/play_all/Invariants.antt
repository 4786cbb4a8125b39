-- `play_all` ends: each command takes at least one byte of the file of calls.
use Rattle.std.proofs.Common.{◌-◌, ◌≤◌, length}
use Rattle.cases.proofs.play.Played.play_all.Given as goal

abbrev pub invariant-loop-command : goal.invariant-loop-command
invariant-loop-command g l = l.at ≤ length l.calls

abbrev pub decreases-loop-command : goal.decreases-loop-command
decreases-loop-command g l = length l.calls - l.at
