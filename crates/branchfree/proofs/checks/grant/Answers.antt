-- `grant` reads the list of the grants.
use mathlib.Core.Path.{refl}
use Rattle.branchfree.specs.Failing.{grant_at}
use Rattle.branchfree.proofs.checks.grant.Goals as goal

pub returns : goal.returns
unfolding grant_at
returns c = refl
