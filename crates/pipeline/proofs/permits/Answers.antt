-- `permits` is the step rule over the sets: create needs that no step is done, another step one that leads to it.
use borrow.Author.Tests.{eq-eqb, ne_eqb}
use Rattle.pipeline.specs.Steps.{pipeline_in}
use Rattle.pipeline.proofs.permits.Goals as goal

pub returns-then-q-eq0 : goal.returns-then-q-eq0
unfolding pipeline_in
returns-then-q-eq0 c = rw (eq-eqb _ _ c.if-q-eq0.true)

pub returns : goal.returns
unfolding pipeline_in
returns c = rw (ne_eqb _ _ c.if-q-eq0.false) c.is_led_to.ensures
