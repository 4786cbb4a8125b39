-- `sort` takes a free place in each turn: before turn k the first k positions are places taken, in order, and the others are pending.
use Rattle.sorting.proofs.Turns.{taken_none, taken_turn, taken_all, taken_blocked}
use borrow.Author.Rules.{rules}
use Rattle.sorting.proofs.sort.Goals as goal

pub loop-k-init : goal.loop-k-init
loop-k-init c = (search rules, search rules, rw c.all_below-pending.ensures (taken_none _ _ c.requires))

pub returns-in_err-i : goal.returns-in_err-i
returns-in_err-i c =
    rw c.from_residual.ensures
    (taken_blocked _ _ _ _ _ c.loop-k.invariant.2 (search rules) c.loop-k.invariant.1 c.in_err-i.ensures)

pub loop-k-preserved : goal.loop-k-preserved
loop-k-preserved c =
    let turn = c in
    let looped = c in (
      search rules,
      search rules,
      taken_turn _ _ _ _ _ _ c.loop-k.invariant.2 (search rules) c.in_ok-i.ensures
          c.without_bit64-pending.ensures,
    )

pub returns : goal.returns
returns c = taken_all _ _ _ _ _ c.loop-k.invariant.2 (search rules)
