-- `begin` leaves a run of few requests as it is, and comes as far as `kept::run` does with others.
use native.Mathlib.Omega.{arith}
use Rattle.tallying.proofs.CountTurns.{begun_none}
use Rattle.tallying.proofs.begin.Goals as goal

pub returns-then-extent-lt-FEW : goal.returns-then-extent-lt-FEW
returns-then-extent-lt-FEW c =
    (begun_none (record { tables = c.args.t.now.given; size = c.told-h; held = c.told-l }) c.requires.0, omega (arith, c.requires.2, c.if-extent-lt-FEW.true))

pub returns : goal.returns
returns c =
    let ran = c.run.ensures in
    (record { answers = ran.0.written; begun = ran.0.begun; counted = ran.0.left }, omega (arith, ran.1))
