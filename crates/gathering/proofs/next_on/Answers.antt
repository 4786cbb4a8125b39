-- `next_on` answers "create" alone where no step is done, as `next_steps` does.
use Rattle.pipeline.proofs.NextLaws.{next_none}
use Rattle.gathering.proofs.next_on.Goals as goal

pub returns-then-own-eq0 : goal.returns-then-own-eq0
returns-then-own-eq0 c = next_none _ _ c.if-own-eq0.true
