-- `plan` packs its list: a plan of the packed jobs is one of the list, since a list too long to be packed whole has none.
use Rattle.jobs.proofs.PackedPlans.{packed_plan}
use Rattle.monitor.proofs.plan.Goals as goal

pub returns : goal.returns
returns c = packed_plan _ _ _ _ (rw c.pack.ensures at c.plan_packed.ensures)
