-- `start_index` is the definition's index of a start; no sum passes the machine's numbers, since each number is below 256.
use mathlib.Core.Path.{refl}
use Rattle.policy.specs.Request.{index}
use Rattle.request.proofs.start_index.Goals as goal

pub returns : goal.returns
unfolding index
returns c = refl
