-- `steps::stepped_over` answers the set of those of 64 folders whose steppers have a person among them: after i turns it holds those
-- below i.
use Prim.Native.Nat.{◌%◌}
use native.Mathlib.Omega.{arith}
use mathlib.Core.Path.{◌≡◌, sym, ◌∙◌}
use Rattle.bits.proofs.Masks.{mask_start, mask_step}
use borrow.Author.Rules.{rules}
use Rattle.recorded.proofs.steps.stepped_over.Goals as goal

pub loop-i-init : goal.loop-i-init
loop-i-init c = (search rules, sym (mask_start _))

pub loop-i-preserved : goal.loop-i-preserved
loop-i-preserved c =
    let loop = c.loop-i in
    let start = c in
    let args = c.args in
    let person : args.s % 64 ≡ args.s = omega (arith, c.requires.0) in
    let place : loop.i % 64 ≡ loop.i = omega arith in (
      search rules,
      mask_step loop.i _ loop.invariant.1 (c.with_bit64_if-set.ensures ∙ rw (c.bit.ensures, person, place)),
    )

pub returns : goal.returns
returns c = let all : c.loop-i.i ≡ 64 = omega arith in rw all at c.loop-i.invariant.1
