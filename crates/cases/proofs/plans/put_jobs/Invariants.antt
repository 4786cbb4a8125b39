-- `put_jobs` counts at most one for each job put.
use Rattle.std.proofs.Common.{◌≤◌}
use Rattle.cases.proofs.plans.put_jobs.Given as goal

abbrev pub invariant-loop-i : goal.invariant-loop-i
invariant-loop-i l = l.granted ≤ l.i-index
