-- `access_index` is the definition's index of a write or of a read; no sum passes the machine's numbers, since each number is below 256.
use Rattle.policy.specs.Request.{index}
use Rattle.request.specs.Parsed.{access_by}
use Rattle.request.proofs.access_index.Goals as goal

pub returns-then-write : goal.returns-then-write
unfolding access_by index
returns-then-write c = rw c.if-write.true

pub returns : goal.returns
unfolding access_by index
returns c = rw c.if-write.false
