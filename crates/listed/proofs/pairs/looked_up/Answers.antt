-- `looked_up` is what is looked up about a job, field by field.
use Rattle.precedence.specs.Precedence.{is_step}
use Rattle.listed.specs.Pairs.{side_by, side_of}
use Rattle.listed.proofs.pairs.looked_up.Goals as goal

pub returns : goal.returns
unfolding side_of side_by is_step
returns c =
    rw (
      c.in_force.ensures,
      c.lowers_level.ensures,
      c.needs_level.ensures,
      c.in_force-2.ensures,
      c.from.ensures,
      c.from-2.ensures,
      c.from-3.ensures,
    )
