-- `job_at` reads the four bytes of a job.
use native.Mathlib.Omega.{arith}
use mathlib.Core.Path.{sym}
use Rattle.listed.proofs.JobBytes.{job_at_lem}
use Rattle.listed.proofs.job_at.Goals as goal

pub returns : goal.returns
returns c = sym (job_at_lem c.args.i c.args.jobs.now (omega (arith, c.requires)))
