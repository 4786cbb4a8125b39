-- `turn` gives the rows turned round: its six stages are those whose bits all come from where they should.
use native.Mathlib.Omega.{arith}
use Rattle.grouping.proofs.TurningLaws.{start, more, turned_all, stage_32, stage_16, stage_8, stage_4, stage_2, stage_1}
use Rattle.grouping.proofs.turning.turn.Goals as goal

pub stage-a-requires : goal.stage-a-requires
stage-a-requires c = (c.requires, stage_32)

pub stage-b-requires : goal.stage-b-requires
stage-b-requires c = (omega (arith, c.stage-a.ensures.size), stage_16)

pub stage-c-requires : goal.stage-c-requires
stage-c-requires c = (omega (arith, c.stage-b.ensures.size), stage_8)

pub stage-d-requires : goal.stage-d-requires
stage-d-requires c = (omega (arith, c.stage-c.ensures.size), stage_4)

pub stage-e-requires : goal.stage-e-requires
stage-e-requires c = (omega (arith, c.stage-d.ensures.size), stage_2)

pub stage-requires : goal.stage-requires
stage-requires c = (omega (arith, c.stage-e.ensures.size), stage_1)

pub returns : goal.returns
returns c =
    let one = more c.stage-a.ensures start in
    let two = more c.stage-b.ensures one in
    let four = more c.stage-d.ensures (more c.stage-c.ensures two) in
    turned_all (more c.stage.ensures (more c.stage-e.ensures four))
