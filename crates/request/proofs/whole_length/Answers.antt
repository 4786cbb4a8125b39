-- `whole_length` is the length that the kind says where the bytes are there, and 0 otherwise.
use native.Mathlib.Omega.{arith}
use mathlib.Core.Path.{sym, ◌∙◌}
use Rattle.request.proofs.RequestLaws.{too_short, is_step_lem, is_unknown, cut_step}
use Rattle.request.proofs.WholeLaws.{none_whole, three_whole, step_whole}
use Rattle.request.proofs.whole_length.Goals as goal

pub returns-then-left-lt3 : goal.returns-then-left-lt3
returns-then-left-lt3 c = sym (none_whole _ (too_short _ c.if-left-lt3.true))

pub returns-then-left-lt4 : goal.returns-then-left-lt4
returns-then-left-lt4 c =
    let bytes = c.args.bytes.now in
    sym (none_whole bytes (is_step_lem bytes (omega arith) (omega arith) ∙ cut_step bytes (omega arith)))

pub returns-else-left-lt4 : goal.returns-else-left-lt4
returns-else-left-lt4 c = sym (step_whole _ (omega arith) (omega arith))

pub returns-in-16-to-18 : goal.returns-in-16-to-18
returns-in-16-to-18 c = sym (three_whole _ (omega arith) (omega arith) (omega arith))

pub returns-in-0-to-15 : goal.returns-in-0-to-15
returns-in-0-to-15 c = sym (none_whole _ (is_unknown _ (omega arith) (omega arith) (omega arith) (omega arith) (omega arith)))

pub returns-in-20-to-255 : goal.returns-in-20-to-255
returns-in-20-to-255 c = sym (none_whole _ (is_unknown _ (omega arith) (omega arith) (omega arith) (omega arith) (omega arith)))
