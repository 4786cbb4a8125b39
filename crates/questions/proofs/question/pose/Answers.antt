-- `pose` finds what each kind of request asks: it is refused with 13 at once where its parties are not declared, and with 12 where there is
-- none.
use native.Mathlib.Omega.{arith}
use mathlib.Core.Path.{◌≡◌, refl, sym, ap, ◌∙◌}
use mathlib.Core.Logic.{⊎_elim}
use mathlib.Core.Bool.{Bool}
use lib.Dec.{eqb}
use borrow.Author.Tests.{not-true, not-false}
use Rattle.policy.specs.Request.{start, step}
use Rattle.policy.specs.Kinds.{kind_number}
use Rattle.policy.specs.Levels.{level_at}
use Rattle.request.specs.Parsed.{access_by}
use Rattle.request.proofs.KindLaws.{by_access_kind, kind_start, kind_step}
use Rattle.questions.specs.Judging.{access_right}
use Rattle.questions.specs.Posing.{access_asks, start_asks}
use Rattle.questions.proofs.AskingLaws.{both_known, entry_known, not_both, two_known, not_two}
use Rattle.questions.proofs.JudgingLaws.{
  undeclared_access,
  undeclared_start,
  undeclared_step,
  high_step,
  undeclared_number,
}
use Rattle.questions.proofs.Deciding.{access_posed, step_posed, start_posed}
use Rattle.questions.proofs.Posings.{asking}
use Rattle.questions.proofs.question.pose.Goals as goal
use Rattle.questions.proofs.question.pose.Goals.{
  then-not-asked-3-via-then-not-asked-3,
  then-not-asked-3-via-else-not-asked-3+then-parsed-gt15,
}

pub returns-then-not-asked-2 : goal.returns-then-not-asked-2
returns-then-not-asked-2 c =
    λ t H knows.
    undeclared_number t H _ _ (kind_start c.args.parsed refl refl (c.in_ok-kind.ensures ∙ ap kind_number c.in-Start.is))
    (undeclared_start t _ _ (not_two knows refl refl (not-true c.args.asked.persons c.if-not-asked-2.true)))

pub returns-then-not-asked-3 : goal.returns-then-not-asked-3
returns-then-not-asked-3 c =
    λ t H knows.
    let r = c.args.parsed in
    let is = kind_step r refl refl refl (c.in_ok-kind.ensures ∙ ap kind_number c.in-Step.is) in
    elim c.then-not-asked-3.branch [
      | then-not-asked-3-via-then-not-asked-3 w ↦
          undeclared_number t H _ _ is
          (undeclared_step t _ _ _ (not_both knows refl refl (not-true c.args.asked.known w.if-not-asked-3.true)))
      | then-not-asked-3-via-else-not-asked-3+then-parsed-gt15 w ↦
          undeclared_number t H _ _ is (high_step t _ _ _ w.if-parsed-gt15.true)
    ]

pub returns-then-not-asked : goal.returns-then-not-asked
returns-then-not-asked c =
    λ t H knows.
    undeclared_number t H _ _ (by_access_kind c.args.parsed refl refl c.in_ok-kind.ensures c.in-Read.is)
    (undeclared_access t _ _ _ (not_both knows refl refl (not-true c.args.asked.known c.if-not-asked.true)))

pub returns-else-not-asked-2 : goal.returns-else-not-asked-2
unfolding start_asks
returns-else-not-asked-2 c =
    let r = c.args.parsed in
    let stored = level_at c.args.l.now in
    asking c.start.ensures (λ t H s o knows person target.
    let (one, other) = two_known knows person target (not-false c.args.asked.persons c.if-not-asked-2.false) in (
      start s o,
      kind_start r person target (c.in_ok-kind.ensures ∙ ap kind_number c.in-Start.is),
      start_posed t H stored s one o r.step other (c.entry.ensures
          ∙ ap stored (c.from.ensures ∙ sym target)),
    ))

pub returns-else-parsed-gt15 : goal.returns-else-parsed-gt15
unfolding access_asks
returns-else-parsed-gt15 c =
    let r = c.args.parsed in
    let is = rw c.from-in-Step.ensures at c.access-in-Step.ensures in
    asking is (λ t H s o knows person target.
    let declares = not-false c.args.asked.known c.if-not-asked-3.false in
    let (one, other) = both_known knows person target declares in (
      step s r.step o,
      kind_step r person target refl (c.in_ok-kind.ensures ∙ ap kind_number c.in-Step.is),
      step_posed t H (level_at c.args.l.now) s one o other (entry_known knows person target declares) r.step (omega arith),
    ))

pub returns-else-not-asked : goal.returns-else-not-asked
unfolding access_asks
returns-else-not-asked c =
    let r = c.args.parsed in
    let writes = eqb r.kind 17 in
    let write : c.eq-write.result ≡ writes = rw (c.eq-write.ensures, c.in_ok-kind.ensures) (⊎_elim (λ e. rw e) (λ e. rw e) c.in-Read.is) in
    let is = rw write at c.access.ensures in
    asking is (λ t H s o knows person target.
    let declares = not-false c.args.asked.known c.if-not-asked.false in
    let (one, other) = both_known knows person target declares in (
      access_by writes s o,
      by_access_kind r person target c.in_ok-kind.ensures c.in-Read.is,
      access_posed t H (level_at c.args.l.now) s one o other (entry_known knows person target declares) r.step writes
          (c.access_right-right.ensures ∙ ap (λ (b : Bool). access_right b c.args.asked.folder.kind) write),
    ))
