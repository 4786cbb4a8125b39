-- `add_steps_on` joins the words of the steps one after another: before turn p those of the steps below p are in their sets.
use native.Mathlib.Omega.{arith}
use mathlib.Core.Path.{◌≡◌, refl}
use Rattle.grouping.proofs.AddingLaws.{applied_none, applied_more}
use borrow.Author.Rules.{rules}
use Rattle.grouping.proofs.words.add_steps_on.Goals as goal

pub loop-p-init : goal.loop-p-init
loop-p-init c = (search rules, applied_none _ _ _)

pub loop-p-preserved : goal.loop-p-preserved
loop-p-preserved c =
    let looped = c.loop-p in
    let start = c in (
      search rules,
      applied_more _ c.fits-h c.args.o looped.p looped.invariant.1
          (omega (arith, looped.invariant.1.size, c.told-sets)) c.word_at.ensures refl,
    )

pub returns : goal.returns
returns c = let all : c.loop-p.p ≡ 16 = omega arith in rw all at c.loop-p.invariant.1
