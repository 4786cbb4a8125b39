-- `sets::put_folders` stores the set of each folder: before each turn those of the folders below the number reached are at their places.
use native.Mathlib.Omega.{arith}
use mathlib.Core.Path.{◌≡◌, refl}
use Rattle.bits.proofs.FillingLaws.{fill_none, fill_more}
use borrow.Author.Rules.{rules}
use Rattle.levels.proofs.sets.put_folders.Goals as goal

pub loop-o-init : goal.loop-o-init
loop-o-init c = (search rules, fill_none 64 _ _)

pub loop-o-preserved : goal.loop-o-preserved
loop-o-preserved c =
    let looped = c.loop-o in
    let start = c in (
      search rules,
      fill_more 64 looped.o _ _ _ _ refl looped.invariant.1 (omega (arith, c.told-sets)) (c.set_of.ensures, omega arith),
    )

pub returns : goal.returns
returns c =
    let all : c.loop-o.o ≡ 128 = omega arith in
    rw all at c.loop-o.invariant.1
