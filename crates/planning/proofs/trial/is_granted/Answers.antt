-- `is_granted` runs the records of the jobs in their order, and what a run of them grants, putting them grants.
use Rattle.planning.proofs.Trials.{granted_records}
use Rattle.planning.proofs.trial.is_granted.Goals as goal

pub returns : goal.returns
returns c =
    granted_records _ _ _ _ _ c.requires.1 c.requires.2 c.requires.3 c.put_records-end.ensures.front
    c.run_grants.ensures
