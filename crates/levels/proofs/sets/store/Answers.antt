-- `sets::store` gives the buffer whose levels the sets are: before each turn the bytes of the persons below the number reached are.
use native.Mathlib.Omega.{arith}
use mathlib.Core.Path.{◌≡◌, ◌∙◌}
use Rattle.policy.proofs.LevelBytes.{size_with}
use Rattle.levels.proofs.SetLaws.{store_more, stored_whole}
use borrow.Author.Rules.{rules}
use Rattle.levels.proofs.sets.store.Goals as goal

pub loop-s-init : goal.loop-s-init
loop-s-init c = (search rules, c.told-l, λ m buffer holds i below. let z : ⊥ = omega arith in absurd z)

pub loop-s-preserved : goal.loop-s-preserved
loop-s-preserved c =
    let stored = c.set_entry in
    let read = c.level_of in
    let loop = c.loop-s in (
      search rules,
      rw stored.ensures (size_with _ _ _ ∙ loop.invariant.1),
      λ m buffer holds.
          rw stored.ensures
          (store_more loop.s _ m _ (omega arith) loop.invariant.1 buffer holds read.ensures (loop.invariant.2 m buffer holds)),
    )

pub returns : goal.returns
returns c =
    λ m buffer holds.
    let loop = c.loop-s in
    let all : loop.s ≡ 64 = omega arith in
    stored_whole _ m loop.invariant.1 buffer (rw all at (loop.invariant.2 m buffer holds))
