-- `stage` stores the rows one after another: before turn i the first 2 * i rows are those of the stage.
use Prim.Native.Nat.{◌+◌, ◌*◌}
use native.Mathlib.Omega.{arith}
use mathlib.Core.Path.{◌≡◌, refl}
use Rattle.recorded.proofs.GatheringLaws.{stored_none, stored_more}
use Rattle.grouping.proofs.TurningLaws.{even_row, odd_row}
use borrow.Author.Rules.{rules}
use Rattle.grouping.proofs.turning.stage.Goals as goal

pub loop-i-init : goal.loop-i-init
loop-i-init g c = (search rules, stored_none 64 _ _ refl)

pub loop-i-preserved : goal.loop-i-preserved
loop-i-preserved g c =
    let looped = c.loop-i in
    let i = looped.i in
    let first = stored_more 64 (2 * i) _ _ _ looped.invariant.1 (omega arith) (even_row _ _ i refl refl c.merge.ensures) in
    let second = stored_more 64 (2 * i + 1) _ _ _ first (omega arith) (odd_row _ _ i refl refl c.merge-in-loop-i.ensures) in
    let next : 2 * i + 1 + 1 ≡ 2 * (i + 1) = omega arith in
    (search rules, rw next at second)

pub returns : goal.returns
returns g c = let all : 2 * c.loop-i.i ≡ 64 = omega arith in rw all at c.loop-i.invariant.1
