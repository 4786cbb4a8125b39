-- `standing` gives what `checked` refuses its number, and leaves the rest to the call on tables that a load gives.
use Rattle.questions.proofs.Answered.{never_zero}
use Rattle.loaded.proofs.CallLaws.{standing_refused}
use Rattle.monitor.proofs.standing.Goals as goal

pub returns-in-Err : goal.returns-in-Err
returns-in-Err c =
    rw (c.no_standing.ensures, c.from.ensures) (standing_refused _ _ _ _ c.in-Err.ensures.err (never_zero c.in-Err.refusal))
