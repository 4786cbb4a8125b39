-- `some_in` has the numbers whose sets are not empty.
use borrow.Author.Rules.{rules}
use Rattle.gathering.proofs.roles.some_in.Goals as goal

pub returns : goal.returns
returns c = c.set_by.ensures _ (λ x b l p. search rules)
