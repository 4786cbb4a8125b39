-- `add_words` joins the words one after another: before turn i those of the first i folders are in the sets of their groups.
use Prim.Native.Nat.{ℕ, ◌+◌, ◌<◌}
use native.Mathlib.Omega.{arith}
use mathlib.Core.Path.{◌≡◌, refl, ap, ◌∙◌}
use Rattle.grouping.proofs.AddingLaws.{grouped_none, grouped_more}
use borrow.Author.Rules.{rules}
use Rattle.grouping.proofs.groups.add_words.Goals as goal

pub loop-i-init : goal.loop-i-init
loop-i-init c = (search rules, grouped_none _ _ _ _ _)

pub loop-i-preserved : goal.loop-i-preserved
loop-i-preserved c =
    let looped = c.loop-i in
    let within : c.args.above + c.of.result < 81 = omega arith in (
      search rules,
      grouped_more _ _ _ _ looped.i looped.invariant.1 (ap (λ (g : ℕ). c.args.above + g) c.of.ensures.0)
          (rw (looped.invariant.1.size ∙ c.told-sets) within) refl,
    )

pub returns : goal.returns
returns c = let all : c.loop-i.i ≡ 64 = omega arith in rw all at c.loop-i.invariant.1
