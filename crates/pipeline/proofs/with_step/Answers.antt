-- `with_step` sets the step's bit exactly where the set of persons who did it is not empty.
use borrow.Author.Tests.{eq-eqb, ne_eqb}
use Rattle.pipeline.proofs.with_step.Goals as goal

pub returns-then-doers-ne0 : goal.returns-then-doers-ne0
returns-then-doers-ne0 c = rw (ne_eqb _ _ c.if-doers-ne0.true) c.with_bit.ensures

pub returns-else-doers-ne0 : goal.returns-else-doers-ne0
returns-else-doers-ne0 c = rw (eq-eqb _ _ c.if-doers-ne0.false)
