-- `try_standing` is the definition's: what lengths of other numbers are refused with, then 13, then the stored level and the ones of the two
-- sets of what the person did.
use mathlib.Core.Path.{sym, ap, ◌∙◌}
use Rattle.std.proofs.lemmas.Result.{err_from_is_err_and}
use Rattle.policy.specs.Tables.{person_declared}
use Rattle.policy.specs.Request.{set_of}
use Rattle.policy.specs.Levels.{level_at}
use Rattle.past.specs.Past.{past_of}
use Rattle.questions.proofs.AskingLaws.{same_person}
use Rattle.questions.proofs.Answered.{never_zero}
use Rattle.loaded.proofs.CallLaws.{all_pass, standing_refused, standing_undeclared, standing_is}
use Rattle.loaded.proofs.Lent.{history_refused, levels_refused}
use Rattle.loaded.proofs.try_standing.Goals as goal

pub returns-in_err-h : goal.returns-in_err-h
returns-in_err-h c =
    let p = err_from_is_err_and c.from_residual.result c.from_residual.ensures.1 in
    let checks = history_refused c.args.t.now.tables c.args.h.now c.args.levels.now _ _ c.in_err-h.ensures.value c.as_array.ensures.cases in
    rw (p.1, p.2) (standing_refused _ _ _ _ checks (never_zero c.in_err-h.field-0.0))

pub returns-in_err-levels : goal.returns-in_err-levels
returns-in_err-levels c =
    let p = err_from_is_err_and c.from_residual-in_err-levels.result c.from_residual-in_err-levels.ensures.1 in
    let h = rw c.in_ok-h.ensures.ok_part at c.as_array.ensures.cases in
    let checks =
    levels_refused c.args.t.now.tables c.args.h.now c.args.levels.now _ h.long _ c.in_err-levels.ensures.value c.as_array-2.ensures.cases in
    rw (p.1, p.2) (standing_refused _ _ _ _ checks (never_zero c.in_err-levels.field-0.0))

pub returns-then-not-s-t : goal.returns-then-not-s-t
returns-then-not-s-t c =
    let h = rw c.in_ok-h.ensures.ok_part at c.as_array.ensures.cases in
    let l = rw c.in_ok-levels.ensures.ok_part at c.as_array-2.ensures.cases in
    standing_undeclared _ _ _ (all_pass _ _ h.long l.long c.args.t.now.given)
    (ap (person_declared c.args.t.now.tables) (sym c.from-s.ensures) ∙ sym (same_person c.args.t.now.tables c.from-s.result) ∙ c.if-not-s-t.true)

pub past_alone-did-requires : goal.past_alone-did-requires
past_alone-did-requires c =
    sym (same_person c.args.t.now.tables c.from-s.result) ∙ c.if-not-s-t.false

pub returns : goal.returns
returns c =
    let t = c.args.t.now.tables in
    let h = rw c.in_ok-h.ensures.ok_part at c.as_array.ensures.cases in
    let l = rw c.in_ok-levels.ensures.ok_part at c.as_array-2.ensures.cases in
    let own = c.from-s.ensures in
    let past = rw h.same at c.past_alone-did.ensures in
    let level = rw l.same at c.entry.ensures in
    standing_is _ _ _ (all_pass _ _ h.long l.long c.args.t.now.given)
    (ap (person_declared t) (sym own) ∙ sym (same_person t c.from-s.result) ∙ c.if-not-s-t.false)
    c.past_alone-did.result c.entry.result.0 c.count64.result c.count64-2.result
    (past ∙ ap (past_of t (set_of c.args.h.now)) own)
    (level ∙ ap (level_at c.args.levels.now) own)
    c.count64.ensures c.count64-2.ensures
