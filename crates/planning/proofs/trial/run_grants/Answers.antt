-- `run_grants` runs the requests on copies that are equal to what was lent, and tells whether the run refused none.
use Rattle.planning.proofs.Trials.{run_grants}
use Rattle.planning.proofs.trial.run_grants.Goals as goal

pub returns : goal.returns
returns c =
    run_grants _ _ (record { tables = c.args.t.now.given; size = c.told-h; held = c.told-levels }) _ _ c.requires c.run-ran.ensures
