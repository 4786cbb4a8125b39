-- `steps::steps_of` answers the set of the steps that a person applied to a folder: after p turns it holds the steps below p, shifted up by
-- the number of the person's bit, and at the end it is shifted down.
use Prim.Native.Nat.{ℕ, ◌*◌, ◌%◌, ◌^◌}
use native.Mathlib.Omega.{arith}
use mathlib.Core.Path.{refl, ap, ◌∙◌}
use lib.Bits.{bit_or, mask_lt}
use Rattle.recorded.proofs.StepLaws.{no_steps, steps_step, all_steps, steps_fit}
use borrow.Author.Rules.{rules}
use Rattle.recorded.proofs.steps.steps_of.Goals as goal

pub loop-p-init : goal.loop-p-init
loop-p-init c = (search rules, no_steps _ _ _)

pub loop-p-preserved : goal.loop-p-preserved
loop-p-preserved c =
    let looped = c in
    let args = c.args in (
      search rules,
      ap (λ (n : ℕ). bit_or c.loop-p.steps (n * 2 ^ c.loop-p.p % 4294967296)) c.from.ensures
          ∙ steps_step args.h.now args.s args.o c.loop-p.p (omega arith) c.loop-p.invariant.1 refl
          c.with_bit-one.ensures,
    )

pub overflow_cast-result : goal.overflow_cast-result
overflow_cast-result c = omega (arith, mask_lt c.args.s 3)

pub overflow_shr-result : goal.overflow_shr-result
overflow_shr-result c = omega (arith, mask_lt c.args.s 3)

pub overflow_cast-result-2 : goal.overflow_cast-result-2
overflow_cast-result-2 c =
    let args = c.args in
    let fits = steps_fit args.h.now args.s args.o c.loop-p.p (omega arith) c.loop-p.invariant.1 in
    omega arith

pub returns : goal.returns
returns c =
    let args = c.args in
    all_steps args.h.now args.s args.o c.loop-p.p (omega arith) c.loop-p.invariant.1
