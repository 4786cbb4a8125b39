-- `applied::applied_if` answers the steps that a person applied to a folder: none where the person is not among its steppers.
use mathlib.Core.Path.{sym, ◌∙◌}
use Rattle.bits.proofs.Masks.{mask_test}
use Rattle.recorded.specs.Recorded.{stepped_at}
use Rattle.recorded.proofs.GatheringLaws.{unstepped_on}
use Rattle.recorded.proofs.applied.applied_if.Goals as goal

pub returns-then-not-bit : goal.returns-then-not-bit
returns-then-not-bit c =
    let start = c in
    let args = c.args in
    let among = mask_test (λ s. stepped_at args.h.now s args.o) args.s c.requires.0 c.steppers.ensures
    c.bit.ensures in
    unstepped_on args.folder args.h.now args.s args.o (sym among ∙ c.if-not-bit.true)
