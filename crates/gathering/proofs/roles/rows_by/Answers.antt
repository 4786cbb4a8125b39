-- `rows_by` stores the rows one after another: before turn k those of the roles below k.
use native.Mathlib.Omega.{arith}
use mathlib.Core.Path.{◌≡◌}
use Rattle.gathering.proofs.RoleLaws.{rows_none, rows_more}
use borrow.Author.Rules.{rules}
use Rattle.gathering.proofs.roles.rows_by.Goals as goal

pub loop-k-init : goal.loop-k-init
loop-k-init g c = (search rules, rows_none _)

pub loop-k-preserved : goal.loop-k-preserved
loop-k-preserved g c =
    let looped = c.loop-k in
    (search rules, rows_more _ looped.k _ looped.invariant.1 (omega arith) c.row.ensures)

pub returns : goal.returns
returns g c = let all : c.loop-k.k ≡ 32 = omega arith in rw all at c.loop-k.invariant.1
