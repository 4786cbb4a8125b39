-- `count_answers` raises the count of each request, up to the end of the answers: at each turn the rest of the requests gives on the counts so
-- far, with the rest of the answers, what all of them give on those before.
use Prim.Native.Nat.{ℕ, ◌%◌}
use native.Mathlib.Omega.{arith}
use mathlib.Core.Path.{ap}
use mathlib.Core.Logic.{⊎_elim}
use lib.Dec.{ltb}
use lib.ListN.{length}
use borrow.Author.Rules.{part_to_end}
use borrow.Author.Tests.{ltb-true, ltb-false}
use Rattle.bits.proofs.Booleans.{decide}
use Rattle.policy.specs.Tables.{folder_at}
use Rattle.tallying.proofs.AnswerTurns.{answered_within, answered_more, answered_out, answered_all}
use Rattle.tallying.proofs.count_answers.Goals as goal

pub returns-then-at-requests : goal.returns-then-at-requests
returns-then-at-requests c = answered_all c.loop-answer.invariant c.if-at-requests.true

pub overflow_add-at : goal.overflow_add-at
overflow_add-at c =
    let parsed = rw part_to_end at c.parse-parsed.ensures in
    omega (arith, answered_within c.loop-answer.invariant c.if-at-requests.false parsed)

pub loop-answer-preserved : goal.loop-answer-preserved
loop-answer-preserved c =
    let counted = c.count_one in
    let parsed = rw part_to_end at c.parse-parsed.ensures in
    let entry = ap (λ (o : ℕ). folder_at c.args.t.now (o % 128)) c.from.ensures in
    let under = c.firm_of.ensures c.args.t.now entry in
    answered_more c.loop-answer.invariant c.if-at-requests.false parsed c.loop-answer-test.true under c.from-in-loop-answer.ensures
    counted.ensures counted.auto.counts

pub returns : goal.returns
returns c =
    let looped = c.loop-answer in
    let size = length c.args.requests.now in
    ⊎_elim (λ e. answered_out looped.invariant (ltb-true looped.at size e) c.loop-answer-test.false)
    (λ e. answered_all looped.invariant (ltb-false looped.at size e))
    (decide (ltb looped.at size))
