-- `run` gives what `checked` refuses its number, and leaves the rest to the call on tables that a load gives.
use Rattle.questions.proofs.Answered.{never_zero}
use Rattle.loaded.proofs.CallLaws.{run_stopped}
use Rattle.monitor.proofs.run.Goals as goal

pub returns-in-Err : goal.returns-in-Err
returns-in-Err c =
    rw (c.no_run.ensures, c.from.ensures) (run_stopped _ _ _ _ _ c.in-Err.ensures.err (never_zero c.in-Err.refusal))
