-- `put` gives what `checked` refuses its number, and leaves the rest to the call on tables that a load gives.
use Rattle.questions.proofs.Answered.{never_zero}
use Rattle.loaded.proofs.CallLaws.{judge_refused, put_refused}
use Rattle.monitor.proofs.put.Goals as goal

pub returns-in-Err : goal.returns-in-Err
returns-in-Err c =
    let other = never_zero c.in-Err.refusal in
    rw c.from.ensures (judge_refused _ _ _ _ c.in-Err.ensures.err other, put_refused _ _ _ _ c.in-Err.ensures.err other)
