-- `put` is `judge_number` and leaves `put_state`: nothing changes where a length is another one, and otherwise `putting` says both.
use Rattle.std.proofs.lemmas.Result.{err_from_is_err_and}
use Rattle.questions.proofs.Answered.{never_zero}
use Rattle.loaded.proofs.CallLaws.{judge_refused, put_refused}
use Rattle.loaded.proofs.Lent.{history_refused, levels_refused}
use Rattle.loaded.proofs.put.Goals as goal

pub returns-in_err-h : goal.returns-in_err-h
returns-in_err-h c =
    let p = err_from_is_err_and c.from_residual.result c.from_residual.ensures.1 in
    let checks = history_refused c.args.t.now.tables c.args.h.now c.args.levels.now _ _ c.in_err-h.ensures.value c.as_mut_array.ensures.cases in
    let other = never_zero c.in_err-h.field-0.0 in
    rw (p.1, p.2) (judge_refused _ _ _ _ checks other, put_refused _ _ _ _ checks other)

pub returns-in_err-levels : goal.returns-in_err-levels
returns-in_err-levels c =
    let p = err_from_is_err_and c.from_residual-in_err-levels.result c.from_residual-in_err-levels.ensures.1 in
    let h = rw c.in_ok-h.ensures.ok_part at c.as_mut_array.ensures.cases in
    let checks =
    levels_refused c.args.t.now.tables c.args.h.now c.args.levels.now _ h.long _ c.in_err-levels.ensures.value c.as_mut_array-2.ensures.cases in
    let other = never_zero c.in_err-levels.field-0.0 in
    rw (p.1, p.2, h.same) (judge_refused _ _ _ _ checks other, put_refused _ _ _ _ checks other)
