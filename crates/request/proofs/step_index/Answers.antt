-- `step_index` is the definition's index of a step; no sum passes the machine's numbers, since each number is below 256.
use mathlib.Core.Path.{refl}
use Rattle.policy.specs.Request.{index}
use Rattle.request.proofs.step_index.Goals as goal

pub returns : goal.returns
unfolding index
returns c = refl
