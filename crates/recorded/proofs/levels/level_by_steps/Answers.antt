-- `levels::level_by_steps` answers the level after a set of folders: the first 64, and then the next 64.
use mathlib.Core.Path.{ap, ◌∙◌}
use Rattle.recorded.specs.Levels.{level_over, level_by_set}
use Rattle.recorded.proofs.levels.level_by_steps.Goals as goal

pub returns : goal.returns
unfolding level_by_set
returns c = c.level_over.ensures ∙ ap (level_over _ _ 64 64) c.level_over-low.ensures
