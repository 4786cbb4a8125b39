-- `levels::level_over` answers the level after 64 folders: before each turn the folders that are left lead to it.
use native.Mathlib.Omega.{arith}
use mathlib.Core.Path.{◌≡◌, ◌∙◌}
use Rattle.recorded.specs.Levels.{level_over}
use Rattle.recorded.proofs.VisitLaws.{visited_lt, visit_next, visit_end}
use borrow.Author.Rules.{rules}
use Rattle.recorded.proofs.levels.level_over.Goals as goal

pub loop-i-init : goal.loop-i-init
unfolding level_over
loop-i-init c =
    let all : c.into_iter-i-iterator.result.0 ≡ c.args.set =
    rw c.into_iter-i-iterator.ensures.into_iter_gives c.members-i-items.ensures in
    record { fits = rw all (search rules); same = rw all }

pub overflow_add-first : goal.overflow_add-first
overflow_add-first c =
    let steps = c.in-Some.ensures.steps in
    omega (arith, visited_lt c.loop-i.invariant steps.0 steps.1)

pub folder-requires : goal.folder-requires
folder-requires c =
    let steps = c.in-Some.ensures.steps in
    omega (arith, visited_lt c.loop-i.invariant steps.0 steps.1)

pub loop-i-preserved : goal.loop-i-preserved
loop-i-preserved c =
    let steps = c.in-Some.ensures.steps in
    visit_next c.loop-i.invariant steps.0 steps.1 steps.2 (c.level_after-level.ensures ∙ rw c.folder.ensures)

pub returns : goal.returns
returns c = visit_end c.loop-i.invariant c.in-None.ensures.steps.0
