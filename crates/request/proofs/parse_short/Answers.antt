-- `parse_short` finds a record of three bytes, or none: a step's record has four.
use native.Mathlib.Omega.{arith}
use mathlib.Core.Path.{sym, ◌∙◌}
use Rattle.request.specs.Parsed.{as_request}
use Rattle.request.proofs.RequestLaws.{too_short, is_unknown, unknown_short, short_fields, next_short}
use Rattle.request.proofs.parse_short.Goals as goal

pub returns-then-left-lt3 : goal.returns-then-left-lt3
returns-then-left-lt3 c =
    let none = c.nothing.ensures in
    record { request = none.0 ∙ sym (too_short _ c.if-left-lt3.true); onward = none.1 ∙ sym (next_short _ (omega arith)) }

pub returns-in-16-to-18 : goal.returns-in-16-to-18
unfolding as_request
returns-in-16-to-18 c =
    let bytes = c.args.bytes.now in
    record { request = short_fields bytes 0 (omega arith) (omega arith); onward = omega (arith, next_short bytes (omega arith)) }

pub returns-in-0-to-15 : goal.returns-in-0-to-15
returns-in-0-to-15 c =
    let none = c.nothing-in-0-to-15.ensures in
    record {
      request = none.0 ∙ sym (is_unknown _ (omega arith) (omega arith) (omega arith) (omega arith) (omega arith));
      onward = none.1 ∙ sym (next_short _ (omega arith));
    }

pub returns-in-19-to-255 : goal.returns-in-19-to-255
returns-in-19-to-255 c =
    let none = c.nothing-in-19-to-255.ensures in
    record { request = none.0 ∙ sym (unknown_short _ (omega arith) (omega arith)); onward = none.1 ∙ sym (next_short _ (omega arith)) }
