-- `records::read` goes through the checks in their order: each refusal has the number of the first that fails, and the record that passes
-- them all is read whole.
use mathlib.Core.Bool.{true, false}
use mathlib.Core.Path.{sym, ap, ◌∙◌}
use borrow.Author.Tests.{not-true, not-false}
use Rattle.policy.specs.Rulebook.{in_range}
use Rattle.rulebook.specs.Readings.{kind_of}
use Rattle.rulebook.proofs.KindLaws.{kind_of_record}
use Rattle.rulebook.proofs.FormLaws.{no_byte, unknown_kind, misplaced, cut, ranges}
use Rattle.rulebook.proofs.records.read.Goals as goal

pub returns-then-book-at-clause-err : goal.returns-then-book-at-clause-err
returns-then-book-at-clause-err c = no_byte _ _ c.if-book-at.true

pub returns-then-kind-gt-LAST_KIND-clause-err : goal.returns-then-kind-gt-LAST_KIND-clause-err
returns-then-kind-gt-LAST_KIND-clause-err c = unknown_kind _ _ c.if-book-at.false c.if-kind-gt-LAST_KIND.true

pub returns-then-kind-at-clause-err : goal.returns-then-kind-at-clause-err
returns-then-kind-at-clause-err c =
    misplaced _ _ c.if-book-at.false c.if-kind-gt-LAST_KIND.false (not-true _ c.if-kind-at.true)

pub returns-then-book-at-2-clause-err : goal.returns-then-book-at-2-clause-err
returns-then-book-at-2-clause-err c =
    let short = rw c.record_length.ensures at c.if-book-at-2.true in
    cut _ _ c.if-book-at.false c.if-kind-gt-LAST_KIND.false (not-false _ c.if-kind-at.false) short

pub returns-then-not-in_range-clause-err : goal.returns-then-not-in_range-clause-err
returns-then-not-in_range-clause-err c =
    let long = rw c.record_length.ensures at c.if-book-at-2.false in
    let out = ap in_range (sym c.fields-found.ensures.same) ∙ sym c.in_range.ensures ∙ c.if-not-in_range.true in
    ranges _ _ c.if-book-at.false c.if-kind-gt-LAST_KIND.false (not-false _ c.if-kind-at.false) long false out

pub returns-clause-ok : goal.returns-clause-ok
returns-clause-ok c =
    let there = c.if-book-at.false in
    let known = c.if-kind-gt-LAST_KIND.false in
    let fields = c.fields-found.ensures in
    let long = rw c.record_length.ensures at c.if-book-at-2.false in
    let inside = sym c.in_range.ensures ∙ c.if-not-in_range.false in
    record {
      number =
          ranges c.args.book.now c.args.at there known (not-false _ c.if-kind-at.false) long true
          (ap in_range (sym fields.same) ∙ inside);
      inside = inside;
      there = there;
      known = known;
      same_kind = ap kind_of fields.same ∙ kind_of_record _ _ known;
      same = fields.same;
      next = fields.next;
    }
