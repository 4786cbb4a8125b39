-- `run` gathers what the run keeps, puts the whole records as `run_by` does, and stores the levels that the sets kept are those of.
use Rattle.levels.proofs.SetLaws.{sets_held}
use Rattle.running.proofs.TakenTurns.{taken_stored}
use Rattle.running.proofs.kept.run.Goals as goal

pub returns : goal.returns
returns g c =
    let ran = c.run_by-ran.ensures in
    let kept = ran.0.kept in
    let l = c.store.ensures kept.levels kept.keeps.levels.buffer (sets_held _ kept.levels _ kept.keeps.levels) in
    (taken_stored ran.0 l, ran.1)
