-- `begin` leaves a run of few requests as it is, and comes as far as `kept::run` does with others, which writes their numbers.
use native.Mathlib.Omega.{arith}
use mathlib.Core.Path.{refl}
use Rattle.putting.proofs.Turns.{done_none}
use Rattle.running.proofs.begin.Goals as goal

pub returns-then-extent-lt-FEW : goal.returns-then-extent-lt-FEW
returns-then-extent-lt-FEW c =
    record {
      done = done_none (record { tables = c.args.t.now.given; size = c.told-h; held = c.told-l });
      within = omega arith;
      further = omega arith;
      same = refl;
    }

pub returns : goal.returns
returns c =
    let ran = c.run.ensures.0 in
    rw ran.left ran.begun
