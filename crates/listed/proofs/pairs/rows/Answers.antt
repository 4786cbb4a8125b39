-- `rows` stores the sets one after another: before turn i those of the jobs below i.
use native.Mathlib.Omega.{arith}
use mathlib.Core.Path.{◌≡◌, refl}
use Rattle.recorded.proofs.GatheringLaws.{stored_none, stored_more}
use borrow.Author.Rules.{rules}
use Rattle.listed.proofs.pairs.rows.Goals as goal

pub loop-i-init : goal.loop-i-init
loop-i-init c = (search rules, stored_none 64 _ _ refl)

pub loop-i-preserved : goal.loop-i-preserved
loop-i-preserved c =
    let looped = c in
    (search rules, stored_more 64 c.loop-i.i _ _ _ c.loop-i.invariant.1 (omega arith) c.row.ensures)

pub returns : goal.returns
returns c = let all : c.loop-i.i ≡ c.args.n = omega arith in rw all at c.loop-i.invariant.1
