-- `no_plan` is a refused plan: its number, and zeros.
use mathlib.Core.Path.{refl}
use Rattle.planning.specs.Planning.{no_plan}
use Rattle.planning.proofs.no_plan.Goals as goal

pub returns : goal.returns
unfolding no_plan
returns c = refl
