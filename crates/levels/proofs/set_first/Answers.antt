-- `levels::set_first` stores one first level after another: before each turn those of the persons below the number reached are stored.
use native.Mathlib.Omega.{arith}
use mathlib.Core.Path.{◌≡◌, ◌∙◌}
use Rattle.levels.proofs.LevelLaws.{stored_none, stored_more, stored_all}
use borrow.Author.Rules.{rules}
use Rattle.levels.proofs.set_first.Goals as goal

pub loop-s-init : goal.loop-s-init
loop-s-init c = (search rules, stored_none _ _)

pub loop-s-preserved : goal.loop-s-preserved
loop-s-preserved c =
    let set = c.set_entry in
    let loop = c.loop-s in (
      search rules,
      set.ensures ∙ rw loop.invariant.1 (stored_more _ loop.s _ (omega arith) c.first.ensures),
    )

pub returns : goal.returns
returns c =
    let loop = c.loop-s in
    let all : loop.s ≡ 64 = omega arith in
    rw all at loop.invariant.1 ∙ stored_all _ _
