-- `add_steps` takes the folders one after another: before turn o the steps on those below o are in their sets.
use native.Mathlib.Omega.{arith}
use mathlib.Core.Path.{◌≡◌}
use Rattle.grouping.proofs.AddingLaws.{folders_none, folders_more, folders_same}
use borrow.Author.Rules.{rules}
use Rattle.grouping.proofs.words.add_steps.Goals as goal
use Rattle.grouping.proofs.words.add_steps.Goals.{then-of-lt64, else-of-lt64}

pub loop-o-init : goal.loop-o-init
loop-o-init c = (search rules, folders_none _ _ _)

pub loop-o-preserved : goal.loop-o-preserved
loop-o-preserved c =
    let looped = c.loop-o in (
      search rules,
      elim c.if-of-lt64.branch [
        | then-of-lt64 w ↦
            folders_more _ _ looped.o looped.invariant.1 (rw (← c.of.ensures.0) w.if-of-lt64.true) (rw w.sets-is w.add_steps_on.ensures)
        | else-of-lt64 w ↦ folders_same _ _ looped.o (rw w.sets-is looped.invariant.1) (rw (← c.of.ensures.0) w.if-of-lt64.false)
      ],
    )

pub returns : goal.returns
returns c = let all : c.loop-o.o ≡ 128 = omega arith in rw all at c.loop-o.invariant.1
