-- `plan_bytes` refuses what `checked` refuses, and leaves the rest to planning on tables that a load gives.
use Rattle.questions.proofs.Answered.{never_zero}
use Rattle.planning.proofs.PlanLaws.{checks_refuse}
use Rattle.monitor.proofs.plan_bytes.Goals as goal

pub returns-in-Err : goal.returns-in-Err
returns-in-Err c =
    rw (c.no_plan.ensures, c.from.ensures) (checks_refuse _ _ _ _ c.in-Err.ensures.err (never_zero c.in-Err.refusal))
