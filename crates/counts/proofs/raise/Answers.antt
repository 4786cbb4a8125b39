-- `raise` gives a count with one more; the largest stays, so that the sum passes no machine number.
use native.Mathlib.Omega.{arith}
use mathlib.Core.Path.{◌∙◌}
use Rattle.counts.proofs.CountLaws.{raised_by_one}
use Rattle.counts.proofs.raise.Goals as goal

pub returns : goal.returns
returns c = c.saturating_add.ensures ∙ raised_by_one c.args.count (omega arith)
