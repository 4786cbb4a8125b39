-- `print_answers` stays inside its buffers: the counts of a run are together at most the answer bytes lent to it, so the lines are made
-- from a front of them.
use Rattle.std.proofs.Common.{◌+◌, arith, length-take}
use Rattle.loaded.proofs.CallLaws.{counts_fit}
use Rattle.answers.proofs.print_answers.Goals as goal

pub overflow_add-due : goal.overflow_add-due
overflow_add-due g c = omega (arith, counts_fit c.run-ran.ensures)

pub slice_bounds-answers-end : goal.slice_bounds-answers-end
slice_bounds-answers-end g c = omega (arith, counts_fit c.run-ran.ensures)

pub slice_bounds-print_lines-end : goal.slice_bounds-print_lines-end
slice_bounds-print_lines-end g c =
    let ran = c.run-ran in
    omega (arith, counts_fit ran.ensures, length-take (ran.result.granted + ran.result.refused) ran.new.answers)
