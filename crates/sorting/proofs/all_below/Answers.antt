-- `all_below` puts each place below n into the set, the lowest first.
use Prim.Native.Nat.{ℕ}
use native.Mathlib.Nat.{mod-eq_of_lt}
use native.Mathlib.Omega.{arith}
use mathlib.Core.Path.{◌≡◌, sym, ap, ◌∙◌}
use Rattle.bits.specs.Bits.{with_bit, mask_below}
use Rattle.bits.proofs.Masks.{mask_start, mask_step}
use borrow.Author.Rules.{rules}
use Rattle.sorting.proofs.all_below.Goals as goal

pub loop-i-init : goal.loop-i-init
loop-i-init c = (search rules, sym (mask_start _))

pub loop-i-preserved : goal.loop-i-preserved
loop-i-preserved c =
    let loop = c.loop-i in
    (search rules, mask_step loop.i _ loop.invariant.1 (c.with_bit-all.ensures ∙ ap (with_bit _) (mod-eq_of_lt (omega arith))))

pub returns : goal.returns
returns c =
    let all : c.loop-i.i ≡ c.args.n = omega arith in
    c.loop-i.invariant.1 ∙ ap (λ (k : ℕ). mask_below k _) all
