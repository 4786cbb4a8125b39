-- `tally_counts` gives what `checked` refuses its number, and leaves the rest to the call on tables that a load gives.
use Rattle.questions.proofs.Answered.{never_zero}
use Rattle.tallying.proofs.TallyLaws.{tally_stopped}
use Rattle.monitor.proofs.tally_counts.Goals as goal

pub returns-in-Err : goal.returns-in-Err
returns-in-Err c =
    rw (c.no_run.ensures, c.from.ensures) (tally_stopped _ _ _ _ _ c.in-Err.ensures.err (never_zero c.in-Err.refused))
