-- `applied::applied_over` answers the steps applied up to the last of 64 folders: before each turn the folders that are left lead to them.
use native.Mathlib.Omega.{arith}
use mathlib.Core.Path.{◌≡◌, ap, ◌∙◌}
use lib.Bits.{bit_or}
use Rattle.recorded.specs.Gathering.{applied_after}
use Rattle.recorded.proofs.GatheringLaws.{applied_half}
use Rattle.recorded.proofs.VisitLaws.{visited_lt, visit_next, visit_end}
use Rattle.recorded.proofs.applied.applied_over.Goals as goal

pub loop-i-init : goal.loop-i-init
loop-i-init c =
    let args = c.args in
    let all : c.into_iter-i-iterator.result.0 ≡ args.stepped =
    rw c.into_iter-i-iterator.ensures.into_iter_gives c.members-i-items.ensures in
    applied_half args.t.now args.h.now args.s args.first c.requires.1 (all ∙ c.requires.2) c.requires.3

pub overflow_add-o : goal.overflow_add-o
overflow_add-o c =
    let steps = c.in-Some.ensures.steps in
    omega (arith, visited_lt c.loop-i.invariant steps.0 steps.1, c.requires.1)

pub offset_bounds-t-o : goal.offset_bounds-t-o
offset_bounds-t-o c =
    let steps = c.in-Some.ensures.steps in
    omega (arith, visited_lt c.loop-i.invariant steps.0 steps.1, c.requires.1)

pub bounds-t-o : goal.bounds-t-o
bounds-t-o c =
    let steps = c.in-Some.ensures.steps in
    omega (arith, visited_lt c.loop-i.invariant steps.0 steps.1, c.requires.1)

pub applied_on-steps-requires : goal.applied_on-steps-requires
applied_on-steps-requires c =
    let steps = c.in-Some.ensures.steps in
    (c.requires.0, omega (arith, visited_lt c.loop-i.invariant steps.0 steps.1, c.requires.1))

pub loop-i-preserved : goal.loop-i-preserved
unfolding applied_after
loop-i-preserved c =
    let steps = c.in-Some.ensures.steps in
    visit_next c.loop-i.invariant steps.0 steps.1 steps.2 (ap (bit_or c.loop-i.steps) c.applied_on-steps.ensures)

pub returns : goal.returns
returns c = visit_end c.loop-i.invariant c.in-None.ensures.steps.0
