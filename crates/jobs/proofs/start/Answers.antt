-- `start` gives the packed list before any job is stored, by definition.
use Rattle.std.proofs.Common.{refl}
use Rattle.jobs.specs.Packing.{none_stored}
use Rattle.jobs.proofs.start.Goals as goal

pub returns : goal.returns
unfolding none_stored
returns c = refl
