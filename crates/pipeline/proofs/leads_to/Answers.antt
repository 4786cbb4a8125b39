-- `leads_to` is the three tests of one step: done, enables q, and enables no step done.
use Rattle.pipeline.specs.Steps.{leads}
use Rattle.pipeline.proofs.leads_to.Goals as goal

pub returns : goal.returns
unfolding leads
returns c = rw (c.bit.ensures, c.bit-2.ensures)
