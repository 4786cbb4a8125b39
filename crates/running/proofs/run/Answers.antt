-- `run` is the run that was begun, ended.
use native.Mathlib.Omega.{arith}
use mathlib.Core.Path.{sym}
use Rattle.policy.specs.Calls.{state}
use Rattle.putting.proofs.Turns.{done_room}
use Rattle.running.proofs.run.Goals as goal

pub run_from-requires : goal.run_from-requires
run_from-requires c =
    let begun = c.begin-ran.ensures in
    done_room begun.done begun.within begun.further (omega (arith, c.requires.0, begun.same))

pub returns : goal.returns
returns c =
    let begun = c.begin-ran.ensures in
    let args = c.args in
    c.run_from.ensures (state args.h.now args.l.now) args.answers.now (sym
    begun.same) begun.done
