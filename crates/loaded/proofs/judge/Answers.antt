-- `judge` is `judge_number`: a history or levels of another length get their number, and otherwise `judging` is asked of ready tables,
-- history and levels.
use mathlib.Core.Path.{◌∙◌}
use Rattle.std.proofs.lemmas.Result.{err_from_is_err_and}
use Rattle.questions.proofs.Answered.{never_zero}
use Rattle.loaded.proofs.CallLaws.{judge_refused, judge_parsed}
use Rattle.loaded.proofs.Lent.{history_refused, levels_refused}
use Rattle.loaded.proofs.judge.Goals as goal

pub returns-in_err-h : goal.returns-in_err-h
returns-in_err-h c =
    let p = err_from_is_err_and c.from_residual.result c.from_residual.ensures.1 in
    let checks = history_refused c.args.t.now.tables c.args.h.now c.args.levels.now _ _ c.in_err-h.ensures.value c.as_array.ensures.cases in
    rw (p.1, p.2) (judge_refused _ _ _ _ checks (never_zero c.in_err-h.field-0.0))

pub returns-in_err-levels : goal.returns-in_err-levels
returns-in_err-levels c =
    let p = err_from_is_err_and c.from_residual-in_err-levels.result c.from_residual-in_err-levels.ensures.1 in
    let h = rw c.in_ok-h.ensures.ok_part at c.as_array.ensures.cases in
    let checks =
    levels_refused c.args.t.now.tables c.args.h.now c.args.levels.now _ h.long _ c.in_err-levels.ensures.value c.as_array-2.ensures.cases in
    rw (p.1, p.2) (judge_refused _ _ _ _ checks (never_zero c.in_err-levels.field-0.0))

pub returns : goal.returns
returns c =
    let h = rw c.in_ok-h.ensures.ok_part at c.as_array.ensures.cases in
    let l = rw c.in_ok-levels.ensures.ok_part at c.as_array-2.ensures.cases in
    (rw (h.same, l.same) at c.judge.ensures)
    ∙ judge_parsed _ _ _ (record { tables = c.args.t.now.given; size = h.long; held = l.long }) c.parse.ensures
