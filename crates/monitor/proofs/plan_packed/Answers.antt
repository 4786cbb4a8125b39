-- `plan_packed` hands on the bytes of the packed jobs: four for each job of a list shorter than 65, and else all 260.
use Rattle.jobs.proofs.PackedPlans.{shorter_plan, longer_plan}
use Rattle.std.proofs.Common.{rules}
use Rattle.monitor.proofs.plan_packed.Goals as goal

pub returns-then-len-lt65 : goal.returns-then-len-lt65
returns-then-len-lt65 c = shorter_plan _ _ _ _ c.if-len-lt65.true c.plan_bytes.ensures

pub returns : goal.returns
returns c = longer_plan _ _ _ _ c.if-len-lt65.false (search rules) c.plan_bytes-2.ensures
