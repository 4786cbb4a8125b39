-- `run` is the run that was begun and the run of what it left, a few requests at most, together.
use native.Mathlib.Omega.{arith}
use borrow.Author.Rules.{part_to_end}
use Rattle.putting.proofs.Turns.{done_granted}
use Rattle.tallying.proofs.CountTurns.{together, counted_whole}
use Rattle.tallying.proofs.run.Goals as goal

pub run_few-rest-requires : goal.run_few-rest-requires
run_few-rest-requires c = rw part_to_end c.begin-ran.ensures.1

pub overflow_add-result : goal.overflow_add-result
overflow_add-result c =
    let rest = rw part_to_end at c.run_few-rest.ensures in
    let begun = c.begin-ran.ensures in
    let few = done_granted begun.0.begun.done in
    omega (arith, few, begun.0.begun.within, begun.0.begun.further, begun.1, together rest)

pub overflow_sub-result : goal.overflow_sub-result
overflow_sub-result c =
    done_granted c.begin-ran.ensures.0.begun.done

pub overflow_add-result-2 : goal.overflow_add-result-2
overflow_add-result-2 c =
    let rest = rw part_to_end at c.run_few-rest.ensures in
    let begun = c.begin-ran.ensures in
    let few = done_granted begun.0.begun.done in
    omega (arith, few, begun.0.begun.within, begun.0.begun.further, begun.1, together rest)

pub returns : goal.returns
returns c =
    let rest = rw part_to_end at c.run_few-rest.ensures in
    let begun = c.begin-ran.ensures in
    counted_whole begun.0 rest
