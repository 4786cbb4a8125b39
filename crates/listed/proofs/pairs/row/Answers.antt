-- `row` puts each job that x may not come before into the set, one after another; there is none where no rule asks about x.
use Prim.Native.Nat.{ℕ}
use native.Mathlib.Nat.{mod-eq_of_lt}
use native.Mathlib.Omega.{arith}
use mathlib.Core.Path.{◌≡◌, sym, ap, ap₂, ◌∙◌}
use mathlib.Core.Bool.{Bool, cond, not}
use Rattle.bits.specs.Bits.{with_bit, mask_below}
use Rattle.bits.proofs.Masks.{mask_start, mask_step, mask_none}
use Rattle.listed.specs.Pairs.{precedes, side_at}
use Rattle.listed.proofs.Implied.{unasked}
use borrow.Author.Rules.{rules}
use Rattle.listed.proofs.pairs.row.Goals as goal

pub returns-then-not-x : goal.returns-then-not-x
returns-then-not-x c =
    let args = c.args in
    sym (mask_none args.n _ (λ j l. ap not (unasked args.x _ c.if-not-x.true)))

pub loop-j-init : goal.loop-j-init
loop-j-init c = (search rules, sym (mask_start _))

pub loop-j-preserved : goal.loop-j-preserved
loop-j-preserved c =
    let looped = c in
    let j = c.loop-j.j in (
      search rules,
      mask_step j _ c.loop-j.invariant.1
          (c.with_bit64_if-kept.ensures
          ∙ ap₂ (λ (add : Bool) (k : ℕ). cond add (with_bit c.loop-j.kept k) c.loop-j.kept)
          (ap not c.may_precede.ensures) (mod-eq_of_lt (omega arith))),
    )

pub returns : goal.returns
returns c =
    let looped = c in
    let args = c.args in
    let all : c.loop-j.j ≡ args.n = omega arith in
    c.loop-j.invariant.1 ∙ ap (λ (k : ℕ). mask_below k (λ j. not (precedes args.x (side_at args.sides.now j)))) all
