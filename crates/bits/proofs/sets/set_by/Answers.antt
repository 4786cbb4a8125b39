-- `set_by` puts the numbers in one after another: before turn k those below k that pass the test.
use Prim.Native.Nat.{◌%◌}
use native.Mathlib.Omega.{arith}
use mathlib.Core.Path.{◌≡◌, sym, ◌∙◌}
use Rattle.bits.proofs.Masks.{mask_start, mask_step}
use borrow.Author.Rules.{rules}
use Rattle.bits.proofs.sets.set_by.Goals as goal

pub loop-k-init : goal.loop-k-init
loop-k-init g c = (search rules, λ P says. sym (mask_start P))

pub loop-k-preserved : goal.loop-k-preserved
loop-k-preserved g c =
    let looped = c.loop-k in
    let own : looped.k % 64 ≡ looped.k = omega arith in (
      search rules,
      λ P says.
          mask_step looped.k P (looped.invariant.1 P says)
          (c.with_bit64_if-set.ensures ∙ rw (own, says looped.k _ (omega arith) c.test.ensures)),
    )

pub returns : goal.returns
returns g c = let all : c.loop-k.k ≡ 64 = omega arith in rw all at c.loop-k.invariant.1
