-- `load` keeps, from record to record, that the bytes left and the tables so far come to what the whole book comes to; each record takes a
-- byte or more.
use Rattle.std.proofs.Common.{◌-◌, length}
use Rattle.rulebook.proofs.LoadLaws.{Left}
use Rattle.rulebook.proofs.load.Given as goal

abbrev pub invariant-loop-r : goal.invariant-loop-r
invariant-loop-r l = Left l.book l.at l.t

abbrev pub decreases-loop-r : goal.decreases-loop-r
decreases-loop-r l = length l.book - l.at
