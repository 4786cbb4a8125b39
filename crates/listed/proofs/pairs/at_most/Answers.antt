-- `at_most` holds for the one outcome of comparing that is "at most": the arm that is taken tells the outcome.
use mathlib.Core.Path.{sym, ap, ◌∙◌}
use Rattle.level.specs.Levels.{is_at_most, at_most}
use Rattle.listed.proofs.pairs.at_most.Goals as goal

pub returns-in-AtMost : goal.returns-in-AtMost
unfolding is_at_most at_most
returns-in-AtMost c = ap is_at_most (sym c.in-AtMost.is ∙ c.compare.ensures)

pub returns-in-RankTooLow : goal.returns-in-RankTooLow
unfolding is_at_most at_most
returns-in-RankTooLow c = ap is_at_most (sym c.in-RankTooLow.is ∙ c.compare.ensures)

pub returns-in-CompartmentMissing : goal.returns-in-CompartmentMissing
unfolding is_at_most at_most
returns-in-CompartmentMissing c = ap is_at_most (sym c.in-CompartmentMissing.is ∙ c.compare.ensures)
