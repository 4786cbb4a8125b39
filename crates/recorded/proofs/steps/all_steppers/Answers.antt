-- `steps::all_steppers` answers the steppers of each folder: before each turn those of the folders below the one reached are stored.
use native.Mathlib.Omega.{arith}
use mathlib.Core.Path.{◌≡◌, refl}
use Rattle.recorded.proofs.GatheringLaws.{stored_none, stored_more}
use borrow.Author.Rules.{rules}
use Rattle.recorded.proofs.steps.all_steppers.Goals as goal

pub loop-o-init : goal.loop-o-init
loop-o-init c = (search rules, stored_none 128 _ _ refl)

pub loop-o-preserved : goal.loop-o-preserved
loop-o-preserved c =
    let loop = c.loop-o in
    (search rules, stored_more 128 loop.o _ _ _ loop.invariant.1 (omega arith) c.steppers.ensures)

pub returns : goal.returns
returns c = let all : c.loop-o.o ≡ 128 = omega arith in rw all at c.loop-o.invariant.1
