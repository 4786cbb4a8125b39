-- `order` sorts by the rows of what was looked up about the jobs.
use Rattle.listed.proofs.JobBytes.{jobs_length}
use Rattle.planning.proofs.Orders.{sorted_jobs}
use Rattle.planning.proofs.order.Goals as goal

pub returns : goal.returns
returns c =
    sorted_jobs _ _ _ (jobs_length _ _ c.requires.1) c.requires.2 c.sides-sides.ensures c.rows-rows.ensures
    _ c.sort.ensures
