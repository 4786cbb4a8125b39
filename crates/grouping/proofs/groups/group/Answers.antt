-- `group` answers a group's number, by cases on whether it counts.
use Rattle.grouping.specs.Groups.{group_of}
use Rattle.grouping.proofs.groups.group.Goals as goal

pub returns-then-counts : goal.returns-then-counts
unfolding group_of
returns-then-counts c = rw c.if-counts.true

pub returns : goal.returns
unfolding group_of
returns c = rw c.if-counts.false
