-- `led_steps` joins what each step leads to: before turn p the set has the steps to which a step below p leads.
use native.Mathlib.Omega.{arith}
use mathlib.Core.Path.{◌≡◌, ◌∙◌}
use Rattle.pipeline.proofs.NextLaws.{next_start, next_more, next_all}
use borrow.Author.Rules.{rules}
use Rattle.pipeline.proofs.led_steps.Goals as goal

pub loop-p-init : goal.loop-p-init
loop-p-init c = (search rules, next_start _ _)

pub loop-p-preserved : goal.loop-p-preserved
loop-p-preserved c = let looped = c.loop-p in (search rules, next_more _ _ looped.p looped.invariant.1 c.led_by-next.ensures)

pub returns : goal.returns
returns c =
    let looped = c.loop-p in
    let all : looped.p ≡ 16 = omega arith in
    c.from.ensures ∙ next_all _ _ (λ e. let z : ⊥ = omega (arith, c.requires, e) in z)
    (rw all at looped.invariant.1)
