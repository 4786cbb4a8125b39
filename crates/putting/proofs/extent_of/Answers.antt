-- `extent_of` counts a record for each turn, and comes to where no whole record stands: the count and the answers due for the rest of the
-- requests are always the answers due for all of them, and the turns that are left come to where the whole records end.
use Prim.Native.Nat.{◌<◌}
use native.Mathlib.Omega.{arith}
use mathlib.Core.Path.{◌≡◌, sym, ◌∙◌}
use lib.ListN.{drop}
use borrow.Author.Rules.{part_to_end}
use Rattle.request.specs.Parsed.{whole_length}
use Rattle.putting.proofs.Records.{none_due}
use Rattle.putting.proofs.WholeRecords.{starts, whole_within, none_behind, ends, goes, due_whole, due_last}
use borrow.Author.Rules.{rules}
use Rattle.putting.proofs.extent_of.Goals as goal

pub loop-at-init : goal.loop-at-init
loop-at-init c = (search rules, search rules, omega arith, starts c.args.requests.now)

pub overflow_add-due : goal.overflow_add-due
overflow_add-due c = omega arith

pub returns-then-length-eq0 : goal.returns-then-length-eq0
returns-then-length-eq0 c =
    let at = c.loop-at.at in
    let requests = c.args.requests.now in
    let length = rw part_to_end at c.whole_length-length.ensures in
    let none : whole_length (drop at requests) ≡ 0 = sym length ∙ c.if-length-eq0.true in
    (omega (arith, due_last requests at (omega arith) none), ends requests at c.loop-at.invariant.3 none)

pub overflow_add-at : goal.overflow_add-at
overflow_add-at c =
    let at = c.loop-at.at in
    let requests = c.args.requests.now in
    let length = rw part_to_end at c.whole_length-length.ensures in
    let whole : 0 < whole_length (drop at requests) = omega (arith, length) in
    omega (arith, length, whole_within requests at whole)

pub loop-at-smaller : goal.loop-at-smaller
loop-at-smaller c =
    let at = c.loop-at.at in
    let requests = c.args.requests.now in
    let length = rw part_to_end at c.whole_length-length.ensures in
    let whole : 0 < whole_length (drop at requests) = omega (arith, length) in
    omega (arith, length, whole_within requests at whole)

pub loop-at-preserved : goal.loop-at-preserved
loop-at-preserved c =
    let at = c.loop-at.at in
    let requests = c.args.requests.now in
    let length = rw part_to_end at c.whole_length-length.ensures in
    let whole : 0 < whole_length (drop at requests) = omega (arith, length) in
    rw length (
      whole_within requests at whole,
      omega (arith, whole),
      omega (arith, due_whole requests at whole),
      goes requests at c.loop-at.invariant.3 whole,
    )

pub returns : goal.returns
returns c =
    let at = c.loop-at.at in
    let requests = c.args.requests.now in
    (omega (arith, none_due requests at (omega arith)), ends requests at c.loop-at.invariant.3 (none_behind requests at (omega arith)))
