-- `rights::rights_visiting` answers the rights after the folders of two words, or those found once no role holds them and the new right:
-- before each turn the folders that are left lead to the whole.
use Prim.Native.Nat.{◌%◌}
use native.Mathlib.Omega.{arith}
use mathlib.Core.Path.{◌≡◌, refl, sym, ◌∙◌}
use lib.Bits.{bit_or, or_lt}
use Rattle.past.specs.Turns.{rights_turn, rights_visiting}
use Rattle.past.proofs.FoundLaws.{leads_within, found_whole, found_stopped}
use Rattle.recorded.proofs.Recorded.{entry_below}
use Rattle.recorded.proofs.VisitLaws.{visited_lt, visit_next, visit_end}
use borrow.Author.Rules.{rules}
use Rattle.past.proofs.rights.rights_visiting.Goals as goal

pub loop-i-init : goal.loop-i-init
unfolding rights_visiting
loop-i-init c =
    let all : c.into_iter-i-iterator.result.0 ≡ bit_or c.args.read c.args.wrote =
    rw c.into_iter-i-iterator.ensures.into_iter_gives c.members-i-items.ensures in
    record { fits = rw all (or_lt 64 c.args.read c.args.wrote (search rules) (search rules)); same = rw all }

pub overflow_add-folder : goal.overflow_add-folder
overflow_add-folder c =
    let steps = c.in-Some.ensures.steps in
    let inside = visited_lt c.loop-i.invariant steps.0 steps.1 in
    omega (arith, inside, c.requires)

pub offset_bounds-t-first : goal.offset_bounds-t-first
offset_bounds-t-first c =
    let steps = c.in-Some.ensures.steps in
    let inside = visited_lt c.loop-i.invariant steps.0 steps.1 in
    omega (arith, inside, c.requires)

pub bounds-t-first : goal.bounds-t-first
bounds-t-first c =
    let steps = c.in-Some.ensures.steps in
    let inside = visited_lt c.loop-i.invariant steps.0 steps.1 in
    omega (arith, inside, c.requires)

pub rights_after-more-requires : goal.rights_after-more-requires
rights_after-more-requires c =
    let steps = c.in-Some.ensures.steps in
    let inside = visited_lt c.loop-i.invariant steps.0 steps.1 in
    entry_below c.args.t.now.tables c.args.t.now.given _ (omega (arith, inside, c.requires))

pub returns-then-not-some_role_holds : goal.returns-then-not-some_role_holds
unfolding rights_turn
returns-then-not-some_role_holds c =
    let turned = c in
    let loop = c.loop-i in
    let steps = c.in-Some.ensures.steps in
    let inside = visited_lt loop.invariant steps.0 steps.1 in
    let own : c.in-Some.i % 64 ≡ c.in-Some.i = omega (arith, inside) in
    let args = c.args in
    found_stopped
    (leads_within args.t.now.tables args.first _ _
    (visit_next loop.invariant steps.0 steps.1 refl
    (c.rights_after-more.ensures ∙ rw (c.bit.ensures, c.bit-in-loop-i.ensures, own))))
    (sym c.some_role_holds.ensures ∙ c.if-not-some_role_holds.true)

pub loop-i-preserved : goal.loop-i-preserved
unfolding rights_turn
loop-i-preserved c =
    let turned = c in
    let loop = c.loop-i in
    let steps = c.in-Some.ensures.steps in
    let inside = visited_lt loop.invariant steps.0 steps.1 in
    let own : c.in-Some.i % 64 ≡ c.in-Some.i = omega (arith, inside) in
    visit_next loop.invariant steps.0 steps.1 steps.2
    (c.rights_after-more.ensures ∙ rw (c.bit.ensures, c.bit-in-loop-i.ensures, own))

pub returns : goal.returns
returns c = found_whole (visit_end c.loop-i.invariant c.in-None.ensures.steps.0)
