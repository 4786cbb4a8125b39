-- `try_run` is `ran` and leaves `run_state` and `run_answers`: nothing changes where a length is another one or answer bytes are too few, and
-- otherwise `running` says all three.
use Rattle.std.proofs.lemmas.Result.{err_from_is_err_and}
use Rattle.questions.proofs.Answered.{never_zero}
use Rattle.loaded.proofs.CallLaws.{all_pass, run_stopped, run_without_room, run_done}
use Rattle.loaded.proofs.Lent.{history_refused, levels_refused}
use Rattle.loaded.proofs.try_run.Goals as goal

pub returns-in_err-h : goal.returns-in_err-h
returns-in_err-h c =
    let p = err_from_is_err_and c.from_residual.result c.from_residual.ensures.1 in
    let checks = history_refused c.args.t.now.tables c.args.h.now c.args.levels.now _ _ c.in_err-h.ensures.value c.as_mut_array.ensures.cases in
    rw (p.1, p.2) (run_stopped _ _ _ _ _ checks (never_zero c.in_err-h.field-0.0))

pub returns-in_err-levels : goal.returns-in_err-levels
returns-in_err-levels c =
    let p = err_from_is_err_and c.from_residual-in_err-levels.result c.from_residual-in_err-levels.ensures.1 in
    let h = rw c.in_ok-h.ensures.ok_part at c.as_mut_array.ensures.cases in
    let checks =
    levels_refused c.args.t.now.tables c.args.h.now c.args.levels.now _ h.long _ c.in_err-levels.ensures.value c.as_mut_array-2.ensures.cases in
    rw (p.1, p.2, h.same) (run_stopped _ _ _ _ _ checks (never_zero c.in_err-levels.field-0.0))

pub returns-then-answers-extent : goal.returns-then-answers-extent
returns-then-answers-extent c =
    let h = rw c.in_ok-h.ensures.ok_part at c.as_mut_array.ensures.cases in
    let l = rw c.in_ok-levels.ensures.ok_part at c.as_mut_array-2.ensures.cases in
    rw (h.same, l.same)
    (run_without_room _ _ _ _ (all_pass _ _ h.long l.long c.args.t.now.given) (rw (← c.extent_of-extent.ensures.0) c.if-answers-extent.true))

pub run-requires : goal.run-requires
run-requires c =
    let extent = c.extent_of-extent.ensures in
    (rw (← extent.0) c.if-answers-extent.false, extent.1)

pub returns : goal.returns
returns c =
    let h = rw c.in_ok-h.ensures.ok_part at c.as_mut_array.ensures.cases in
    let l = rw c.in_ok-levels.ensures.ok_part at c.as_mut_array-2.ensures.cases in
    let done = rw (h.same, l.same) at c.run.ensures in
    run_done _ _ _ _ (all_pass _ _ h.long l.long c.args.t.now.given) (rw (← c.extent_of-extent.ensures.0) c.if-answers-extent.false) _ _ _ _
    done.granted done.refused done.left done.answers
