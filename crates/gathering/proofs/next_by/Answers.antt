-- `next_by` has at each place the steps that may be next on that folder, as the closure finds them.
use Rattle.grouping.proofs.FillLaws.{filled}
use borrow.Author.Rules.{rules}
use Rattle.gathering.proofs.next_by.Goals as goal

pub returns : goal.returns
returns c = filled _ _ 128 (λ o y q l k. search rules) c.from_fn.ensures.items
