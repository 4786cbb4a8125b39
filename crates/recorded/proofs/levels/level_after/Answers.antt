-- `levels::level_after` answers the level after a folder that was read: one that is undeclared changes nothing, any other leaves the meet.
use borrow.Author.Tests.{not-true, not-false}
use Rattle.recorded.specs.Levels.{level_after}
use Rattle.recorded.proofs.levels.level_after.Goals as goal

pub returns-then-not-folder : goal.returns-then-not-folder
unfolding level_after
returns-then-not-folder c = rw (not-true c.args.folder.declared c.if-not-folder.true)

pub returns : goal.returns
unfolding level_after
returns c =
    let start = c in
    rw (not-false c.args.folder.declared c.if-not-folder.false) c.meet.ensures
