-- `steps::steppers` answers the set of the persons who stepped on a folder: after p turns it holds those who applied one of the steps
-- below p.
use native.Mathlib.Omega.{arith}
use mathlib.Core.Path.{◌≡◌}
use Rattle.recorded.specs.Recorded.{stepped_at}
use Rattle.recorded.proofs.Steppers.{steppers_below, no_steppers, more_steppers}
use borrow.Author.Rules.{rules}
use Rattle.recorded.proofs.steps.steppers.Goals as goal

pub loop-step-init : goal.loop-step-init
loop-step-init c = (search rules, no_steppers _ _)

pub word_at-set-requires : goal.word_at-set-requires
word_at-set-requires c = omega arith

pub loop-step-preserved : goal.loop-step-preserved
loop-step-preserved c =
    let loop = c.loop-step in
    (search rules, more_steppers _ _ c.fits-h loop.step loop.invariant.1 c.word_at-set.ensures)

pub returns : goal.returns
unfolding steppers_below stepped_at
returns c = let all : c.loop-step.step ≡ 16 = omega arith in rw all at c.loop-step.invariant.1
