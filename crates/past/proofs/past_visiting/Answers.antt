-- `past::past_visiting` answers what a person did after the folders of a set: before each turn the folders that are left lead to it.
use Prim.Native.Nat.{◌%◌}
use native.Mathlib.Omega.{arith}
use mathlib.Core.Path.{◌≡◌, ◌∙◌}
use Rattle.past.specs.Turns.{past_turn, past_visiting}
use Rattle.recorded.proofs.Recorded.{entry_below}
use Rattle.recorded.proofs.VisitLaws.{visited_lt, visit_next, visit_end}
use borrow.Author.Rules.{rules}
use Rattle.past.proofs.past_visiting.Goals as goal

pub loop-i-init : goal.loop-i-init
unfolding past_visiting
loop-i-init c =
    let all : c.into_iter-i-iterator.result.0 ≡ c.args.set =
    rw c.into_iter-i-iterator.ensures.into_iter_gives c.members-i-items.ensures in
    record { fits = rw all (search rules); same = rw all }

pub overflow_add-folder : goal.overflow_add-folder
overflow_add-folder c =
    let steps = c.in-Some.ensures.steps in
    let inside = visited_lt c.loop-i.invariant steps.0 steps.1 in
    omega (arith, inside, c.requires)

pub offset_bounds-t-first : goal.offset_bounds-t-first
offset_bounds-t-first c =
    let steps = c.in-Some.ensures.steps in
    let inside = visited_lt c.loop-i.invariant steps.0 steps.1 in
    omega (arith, inside, c.requires)

pub bounds-t-first : goal.bounds-t-first
bounds-t-first c =
    let steps = c.in-Some.ensures.steps in
    let inside = visited_lt c.loop-i.invariant steps.0 steps.1 in
    omega (arith, inside, c.requires)

pub past_with-past-requires : goal.past_with-past-requires
past_with-past-requires c =
    let lowest = c in
    let start = c in
    let steps = c.in-Some.ensures.steps in
    let inside = visited_lt c.loop-i.invariant steps.0 steps.1 in
    entry_below c.args.t.now.tables c.args.t.now.given _ (omega (arith, inside, c.requires))

pub loop-i-preserved : goal.loop-i-preserved
unfolding past_turn
loop-i-preserved c =
    let loop = c.loop-i in
    let steps = c.in-Some.ensures.steps in
    let inside = visited_lt loop.invariant steps.0 steps.1 in
    let own : c.in-Some.i % 64 ≡ c.in-Some.i = omega (arith, inside) in
    visit_next loop.invariant steps.0 steps.1 steps.2
    (c.past_with-past.ensures ∙ rw (c.bit.ensures, c.bit-in-loop-i.ensures, own))

pub returns : goal.returns
returns c = visit_end c.loop-i.invariant c.in-None.ensures.steps.0
