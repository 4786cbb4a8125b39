-- `is_plannable` is "and" of its parties' marks and of what its action says.
use Rattle.planning.specs.Planning.{plannable_by}
use Rattle.planning.proofs.PlannableLaws.{by_entries}
use Rattle.planning.proofs.is_plannable.Goals as goal

pub returns : goal.returns
unfolding plannable_by
returns c =
    rw (c.from.ensures, c.from-2.ensures, c.is_planned.ensures) (by_entries c.args.t.now c.args.job)
