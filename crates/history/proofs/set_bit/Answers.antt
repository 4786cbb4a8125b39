-- `history::set_bit` sets the bit of an index: past the end nothing changes, and otherwise the byte of the bit is stored with the bit set.
use mathlib.Core.Path.{sym}
use Rattle.policy.specs.History.{with_bit_at}
use Rattle.history.proofs.HistoryLaws.{with_past}
use Rattle.history.proofs.set_bit.Goals as goal

pub returns-then-at-h : goal.returns-then-at-h
returns-then-at-h c = sym (with_past _ c.args.i c.if-at-h.true)

pub returns : goal.returns
unfolding with_bit_at
returns c = rw c.with_bit.ensures
