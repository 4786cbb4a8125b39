-- `keep_step` adds the step to those done, and finds those that may be next, where the pipeline is in force and the step is made.
use mathlib.Core.Path.{refl, sym, ◌∙◌}
use Rattle.branchfree.proofs.UpdateLaws.{made_one, made_none, either_way}
use Rattle.branchfree.proofs.updates.keep_step.Goals as goal

pub returns-then-made-ne0 : goal.returns-then-made-ne0
returns-then-made-ne0 c =
    λ b e.
    let on = sym c.in_force.ensures ∙ c.if-in_force.true in
    rw (made_one b e c.if-made-ne0.true, on, c.next_steps.ensures, c.with_bit-more.ensures) (refl, refl)

pub returns-else-made-ne0 : goal.returns-else-made-ne0
returns-else-made-ne0 c = λ b e. rw (made_none b e c.if-made-ne0.false) (refl, refl)

pub returns-else-in_force : goal.returns-else-in_force
returns-else-in_force c =
    λ b e.
    let off = sym c.in_force.ensures ∙ c.if-in_force.false in rw off (either_way b _, either_way b _)
