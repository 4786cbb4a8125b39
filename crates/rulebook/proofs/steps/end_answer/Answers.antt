-- `steps::end_answer` goes through the checks: circles, then steps that enable and are not enabled.
use mathlib.Core.Path.{sym, ◌∙◌}
use Rattle.policy.specs.Checks.{ladder}
use Rattle.rulebook.proofs.StepLaws.{circle_listed, loose_listed}
use Rattle.rulebook.proofs.steps.end_answer.Goals as goal

pub returns-then-has_circle : goal.returns-then-has_circle
unfolding ladder
returns-then-has_circle c =
    rw (sym (circle_listed _ c.told-sets) ∙ sym c.has_circle.ensures ∙ c.if-has_circle.true)

pub returns-then-has_loose : goal.returns-then-has_loose
unfolding ladder
returns-then-has_loose c =
    rw (
      sym (circle_listed _ c.told-sets) ∙ sym c.has_circle.ensures ∙ c.if-has_circle.false,
      sym (loose_listed _ c.told-sets) ∙ sym c.has_loose.ensures ∙ c.if-has_loose.true,
    )

pub returns : goal.returns
unfolding ladder
returns c =
    rw (
      sym (circle_listed _ c.told-sets) ∙ sym c.has_circle.ensures ∙ c.if-has_circle.false,
      sym (loose_listed _ c.told-sets) ∙ sym c.has_loose.ensures ∙ c.if-has_loose.false,
    )
