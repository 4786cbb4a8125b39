-- `wall::is_touched` answers whether a person read a folder, wrote in it or stepped on it: two bits, and the persons who stepped on it.
use mathlib.Core.Path.{sym, ◌∙◌}
use mathlib.Core.Bool.{false≢true}
use Rattle.bits.proofs.Booleans.{or_left, or_right}
use Rattle.bits.proofs.Masks.{mask_test}
use Rattle.policy.specs.Request.{index}
use Rattle.recorded.specs.Recorded.{read_at, written_at, stepped_at, touched_at}
use Rattle.past.proofs.wall.is_touched.Goals as goal
use Rattle.past.proofs.wall.is_touched.Goals.{then-bit_at, else-bit_at}

pub returns-then-bit_at-2 : goal.returns-then-bit_at-2
unfolding touched_at read_at written_at index
returns-then-bit_at-2 c =
    let args = c.args in
    elim c.if-bit_at.branch [
      | then-bit_at w ↦ rw c.if-bit_at-2.true (sym (or_left _ _ (or_left _ _ (sym c.bit_at.ensures ∙ w.if-bit_at.true))))
      | else-bit_at w ↦
          let written = sym w.bit_at-else-bit_at.ensures ∙ sym w.value-is ∙ c.if-bit_at-2.true in
          rw c.if-bit_at-2.true (sym (or_left _ _ (or_right (read_at args.h.now args.s args.o) _ written)))
    ]

pub returns-else-bit_at-2 : goal.returns-else-bit_at-2
unfolding touched_at read_at written_at index
returns-else-bit_at-2 c =
    let start = c in
    let args = c.args in
    elim c.if-bit_at.branch [
      | then-bit_at w ↦ absurd (false≢true (sym c.if-bit_at-2.false ∙ w.value-is ∙ w.if-bit_at.true))
      | else-bit_at w ↦
          let unread = sym c.bit_at.ensures ∙ w.if-bit_at.false in
          let unwritten = sym w.bit_at-else-bit_at.ensures ∙ sym w.value-is ∙ c.if-bit_at-2.false in
          rw (unread, unwritten)
          (mask_test (λ s. stepped_at args.h.now s args.o) args.s c.requires.0 c.steppers.ensures c.bit.ensures)
    ]
