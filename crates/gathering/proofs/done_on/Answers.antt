-- `done_on` answers the steps done: none where nobody of the persons stepped on the folder.
use mathlib.Core.Path.{◌∙◌}
use Rattle.gathering.proofs.GatheredLaws.{none_done}
use Rattle.gathering.proofs.done_on.Goals as goal

pub returns-then-steppers-persons-eq0 : goal.returns-then-steppers-persons-eq0
returns-then-steppers-persons-eq0 c =
    none_done _ _ _ _ c.fits-h c.steppers.ensures c.if-steppers-persons-eq0.true

pub returns : goal.returns
returns c = c.from.ensures ∙ c.steps_done.ensures
