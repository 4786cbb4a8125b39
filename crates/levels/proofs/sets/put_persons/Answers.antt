-- `sets::put_persons` stores the set of each person: before each turn those of the persons below the number reached are at their places.
use native.Mathlib.Omega.{arith}
use mathlib.Core.Path.{◌≡◌}
use Rattle.bits.proofs.FillingLaws.{fill_none, fill_more}
use Rattle.levels.proofs.SetLaws.{person_set_lem}
use borrow.Author.Rules.{rules}
use Rattle.levels.proofs.sets.put_persons.Goals as goal

pub loop-s-init : goal.loop-s-init
loop-s-init c = (search rules, fill_none 0 _ _)

pub loop-s-preserved : goal.loop-s-preserved
loop-s-preserved c =
    let looped = c.loop-s in
    let start = c in (
      search rules,
      fill_more 0 looped.s _ _ _ _ (omega arith) looped.invariant.1 (omega (arith, c.told-sets))
          (person_set_lem c.args.t.now _ looped.s c.set_of.ensures c.entry.ensures),
    )

pub returns : goal.returns
returns c =
    let all : c.loop-s.s ≡ 64 = omega arith in
    rw all at c.loop-s.invariant.1
