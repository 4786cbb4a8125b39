-- `sets::compartment_missing` tells that a set of compartments is not part of another, in the bits where compartments stand.
use mathlib.Core.Path.{ap}
use mathlib.Core.Bool.{not}
use Rattle.level.proofs.SetLaws.{compartments_part}
use Rattle.level.proofs.sets.compartment_missing.Goals as goal

pub returns : goal.returns
returns c = λ a b m n la lb needed own. rw (needed, own) (ap not (compartments_part a b m n la lb))
