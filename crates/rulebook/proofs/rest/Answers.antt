-- `rest` starts after the end record, which lies in the book; for a refused book it starts at the end.
use native.Mathlib.Omega.{arith}
use Rattle.rulebook.proofs.RestLaws.{inside, none_left, rest_left}
use Rattle.rulebook.proofs.rest.Goals as goal

pub returns-then-loaded-number_of : goal.returns-then-loaded-number_of
returns-then-loaded-number_of c = none_left _ _ c.load-loaded.ensures (rw c.number_of.ensures at c.if-loaded-number_of.true)

pub overflow_add-end : goal.overflow_add-end
overflow_add-end c = omega (arith, inside _ _ c.load-loaded.ensures (rw c.number_of.ensures at c.if-loaded-number_of.false))

pub slice_bounds-result-count-2 : goal.slice_bounds-result-count-2
slice_bounds-result-count-2 c = omega (arith, inside _ _ c.load-loaded.ensures (rw c.number_of.ensures at c.if-loaded-number_of.false))

pub slice_bounds-result-start-2 : goal.slice_bounds-result-start-2
slice_bounds-result-start-2 c = omega (arith, inside _ _ c.load-loaded.ensures (rw c.number_of.ensures at c.if-loaded-number_of.false))

pub returns : goal.returns
returns c = rest_left _ _ c.load-loaded.ensures (rw c.number_of.ensures at c.if-loaded-number_of.false)
