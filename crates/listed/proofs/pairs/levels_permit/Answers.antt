-- `levels_permit` compares the two levels where the first job lowers a person of whom the second needs a level.
use mathlib.Core.Path.{◌∙◌}
use Rattle.listed.specs.Pairs.{levels_pass}
use Rattle.listed.proofs.Implied.{passes_unasked, passes_asked}
use Rattle.listed.proofs.pairs.levels_permit.Goals as goal

pub returns-then-not-x-y : goal.returns-then-not-x-y
unfolding levels_pass
returns-then-not-x-y c = passes_unasked _ _ c.if-not-x-y.true

pub returns-else-not-x-y : goal.returns-else-not-x-y
unfolding levels_pass
returns-else-not-x-y c = c.at_most.ensures ∙ passes_asked _ _ c.if-not-x-y.false
