-- `history::bit_at` answers the bit of an index: past the end no bit is set, and otherwise the bit is in the byte that is read.
use mathlib.Core.Path.{sym}
use Rattle.policy.specs.History.{bit_at}
use Rattle.history.proofs.HistoryLaws.{bit_past}
use Rattle.history.proofs.bit_at.Goals as goal

pub returns-then-at-h : goal.returns-then-at-h
returns-then-at-h c = sym (bit_past _ c.args.i c.if-at-h.true)

pub returns : goal.returns
unfolding bit_at
returns c = c.bit.ensures
