-- `record_if_granted` records a request that is granted, which has the number 0, and leaves both buffers where it is refused.
use mathlib.Core.Path.{sym, ◌∙◌}
use Rattle.policy.specs.Calls.{recorded_if}
use Rattle.questions.proofs.Answered.{ok_zero, granted_zero}
use Rattle.putting.proofs.PutAlone.{granted_leaves}
use Rattle.putting.proofs.alone.record_if_granted.Goals as goal

pub record-requires : goal.record-requires
record-requires c = c.requires (granted_zero c.args.answer (sym c.is_ok.ensures.value ∙ c.if-is_ok.true))

pub returns-then-is_ok : goal.returns-then-is_ok
returns-then-is_ok c =
    let zero = granted_zero c.args.answer (sym c.is_ok.ensures.value ∙ c.if-is_ok.true) in
    record { left = λ t number is. granted_leaves t _ _ _ number zero is c.«record».ensures }

pub returns-else-is_ok : goal.returns-else-is_ok
unfolding recorded_if
returns-else-is_ok c =
    let other = sym (ok_zero c.args.answer) ∙ sym c.is_ok.ensures.value ∙ c.if-is_ok.false in
    record { left = λ t number is. rw other }
