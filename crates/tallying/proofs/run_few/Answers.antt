-- `run_few` puts each request alone, with room for eight answers, and counts the requests by these answers.
use native.Mathlib.Omega.{arith}
use mathlib.Core.Path.{refl}
use Rattle.policy.specs.Calls.{state}
use Rattle.putting.proofs.Turns.{done_none}
use Rattle.tallying.proofs.CountTurns.{few_counted}
use Rattle.tallying.proofs.run_few.Goals as goal

pub run_from-ran-requires : goal.run_from-ran-requires
run_from-ran-requires c =
    record { within = omega arith; further = omega arith; grants = omega arith; enough = omega (arith, c.requires) }

pub returns : goal.returns
returns c =
    let a = state c.args.h.now c.args.l.now in
    few_counted (c.run_from-ran.ensures a _ refl (done_none (record { tables = c.args.t.now.given; size = c.told-h; held = c.told-l }))) c.count_answers.ensures
