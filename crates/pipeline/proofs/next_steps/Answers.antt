-- `next_steps` answers "create" alone where no step is done, and otherwise the steps that one leads to.
use Rattle.pipeline.proofs.NextLaws.{next_none}
use Rattle.pipeline.proofs.next_steps.Goals as goal

pub returns-then-done-eq0 : goal.returns-then-done-eq0
returns-then-done-eq0 c = next_none _ _ c.if-done-eq0.true
