-- `first_free` takes the pending places from the lowest on: before each turn those that are not left were passed.
use native.Mathlib.Omega.{arith}
use mathlib.Core.Path.{◌≡◌}
use Rattle.bits.proofs.LowestBit.{lowest_set, without_lt}
use Rattle.sorting.proofs.Searching.{search_start, search_none, place_below_lem, search_free, search_on}
use borrow.Author.Rules.{rules}
use Rattle.sorting.proofs.first_free.Goals as goal

pub loop-i-init : goal.loop-i-init
loop-i-init c =
    let all : c.into_iter-i-iterator.result.0 ≡ c.args.pending =
    rw c.into_iter-i-iterator.ensures.into_iter_gives c.members-i-items.ensures in
    rw all (search rules, search_start _ _)

pub offset_bounds-rows-i : goal.offset_bounds-rows-i
offset_bounds-rows-i c =
    let steps = c.in-Some.ensures.steps in
    let narrow = c.ranges.pending.fits in
    let below = place_below_lem _ _ _ c.loop-i.invariant.1 steps.0 (omega arith) in
    omega (arith, steps.1, below)

pub bounds-rows-i : goal.bounds-rows-i
bounds-rows-i c =
    let steps = c.in-Some.ensures.steps in
    let narrow = c.ranges.pending.fits in
    rw steps.1 (place_below_lem _ _ _ c.loop-i.invariant.1 steps.0 (omega arith))

pub returns-then-rows-i-eq0 : goal.returns-then-rows-i-eq0
returns-then-rows-i-eq0 c =
    let steps = c.in-Some.ensures.steps in
    let narrow = c.ranges.pending.fits in
    let none = rw steps.1 at c.if-rows-i-eq0.true in
    rw steps.1 (search_free _ _ _ c.loop-i.invariant.1 steps.0 (omega arith) none)

pub loop-i-preserved : goal.loop-i-preserved
loop-i-preserved c =
    let steps = c.in-Some.ensures.steps in
    let narrow = c.ranges.pending.fits in
    let other = rw steps.1 at c.if-rows-i-eq0.false in
    let less = without_lt c.loop-i.i-iterator.0 _ (lowest_set 64 _ steps.0 (omega arith)) in
    rw steps.2
    (omega arith, search_on _ _ _ c.loop-i.invariant.1 steps.0 (omega arith) narrow other)

pub returns : goal.returns
returns c = search_none _ _ _ c.loop-i.invariant.1 c.in-None.ensures.steps.0
