-- `count_answers` raises the count of each request, up to the end of the answers: at each turn the rest of the requests gives on the counts so
-- far, with the rest of the answers, what all of them give on those before.
use Rattle.tallying.proofs.AnswerTurns.{Answered}
use Rattle.tallying.proofs.count_answers.Given as goal

abbrev pub invariant-loop-answer : goal.invariant-loop-answer
invariant-loop-answer l =
    Answered l.t l.requests l.answers l.initial.counts l.counts l.at l.answer-index
