-- `steps::join_through` maps the sets in place: each turn joins one set more.
use Prim.Native.Nat.{◌<◌}
use native.Mathlib.Omega.{arith}
use mathlib.Core.Path.{◌≡◌, ◌∙◌}
use lib.ListN.{length, get_or}
use Rattle.rulebook.specs.Steps.{joined, through}
use Rattle.rulebook.proofs.MapLaws.{mapped_none, mapped_all, mapped_at, mapped_more}
use Rattle.rulebook.proofs.ListLaws.{within}
use Rattle.rulebook.proofs.steps.join_through.Goals as goal

pub loop-set-init : goal.loop-set-init
loop-set-init c = mapped_none _ _

pub loop-set-preserved : goal.loop-set-preserved
loop-set-preserved c =
    let k = c.args.k in
    let sets = c.args.sets.now in
    let f = joined k (get_or sets k 0) in
    let h : c.loop-set.set-index < length sets = omega arith in
    cc (mapped_more f sets _ h, mapped_at f sets _ h, within (λ j. joined j (get_or sets k 0)) k 16 c.requires)

pub returns : goal.returns
unfolding through
returns c =
    let sets = c.args.sets.now in
    let end : c.loop-set.set-index ≡ length sets = omega arith in
    c.loop-set.invariant ∙ rw end (mapped_all _ _)
