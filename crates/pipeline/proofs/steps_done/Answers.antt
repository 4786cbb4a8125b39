-- `steps_done` is the mask of steps that some of the persons did: before each turn it has those below the number reached, each by one
-- word of the history.
use Prim.Native.Nat.{◌%◌}
use native.Mathlib.Omega.{arith}
use mathlib.Core.Path.{◌≡◌, sym, ◌∙◌}
use Rattle.bits.proofs.Masks.{mask_start, mask_step}
use Rattle.pipeline.specs.Steps.{done_by}
use borrow.Author.Rules.{rules}
use Rattle.pipeline.proofs.steps_done.Goals as goal

pub loop-p-init : goal.loop-p-init
loop-p-init c = (search rules, sym (mask_start _))

pub loop-p-preserved : goal.loop-p-preserved
unfolding done_by
loop-p-preserved c =
    let p = c.loop-p.p in
    let own : p % 16 ≡ p = omega arith in (
      search rules,
      mask_step p _ c.loop-p.invariant.1 (c.with_step-done.ensures ∙ rw (own, c.word_at.ensures)),
    )

pub returns : goal.returns
returns c = let e : c.loop-p.p ≡ 16 = omega arith in rw e at c.loop-p.invariant.1
