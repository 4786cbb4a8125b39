-- `right` is the first right of the kind with the step or the folder's kind, whichever the row takes; all rights are below 64.
use native.Mathlib.Omega.{arith}
use mathlib.Core.Path.{refl}
use Rattle.branchfree.specs.Kinds.{right_by}
use Rattle.branchfree.proofs.KindLaws.{right_small}
use Rattle.branchfree.proofs.kinds.right.Goals as goal

pub overflow_add-result : goal.overflow_add-result
unfolding right_by
overflow_add-result c =
    let l = right_small c.args.kind c.args.folder c.args.p c.requires.0 c.requires.1 c.requires.2 in omega (arith, l, c.row-first.ensures)

pub overflow_add-result-2 : goal.overflow_add-result-2
unfolding right_by
overflow_add-result-2 c =
    let l = right_small c.args.kind c.args.folder c.args.p c.requires.0 c.requires.1 c.requires.2 in
    rw (c.row-first.ensures, c.row-folders.ensures, c.from.ensures) (omega (arith, l))

pub returns : goal.returns
unfolding right_by
returns c =
    rw (c.row-first.ensures, c.row-folders.ensures, c.from.ensures)
    (refl, right_small c.args.kind c.args.folder c.args.p c.requires.0 c.requires.1 c.requires.2)
