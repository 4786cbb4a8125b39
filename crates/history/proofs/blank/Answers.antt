-- `history::blank` makes a history all zero: `fill` gives a list of the same length whose elements are all the value.
use Rattle.policy.specs.History.{zeros}
use Rattle.history.proofs.blank.Goals as goal

pub returns : goal.returns
unfolding zeros
returns c = c.fill.ensures.after (λ y e. e)
