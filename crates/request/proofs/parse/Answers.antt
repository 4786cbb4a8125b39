-- `parse` reads a record by its kind: four bytes or more hold the whole of one of a known kind, fewer are left to `parse_short`.
use native.Mathlib.Omega.{arith}
use mathlib.Core.Path.{sym, ◌∙◌}
use Rattle.request.proofs.RequestLaws.{is_unknown, next_unknown}
use Rattle.request.proofs.WholeLaws.{four_whole}
use Rattle.request.proofs.parse.Goals as goal

pub parse_whole-requires : goal.parse_whole-requires
-- four bytes hold a whole record of each of the four kinds
parse_whole-requires c = four_whole _ (omega arith) (omega arith) (omega arith)

pub returns-in-0-to-15 : goal.returns-in-0-to-15
returns-in-0-to-15 c =
    let none = c.nothing.ensures in
    record {
      request = none.0 ∙ sym (is_unknown _ (omega arith) (omega arith) (omega arith) (omega arith) (omega arith));
      onward = none.1 ∙ sym (next_unknown _ (omega arith) (omega arith) (omega arith) (omega arith) (omega arith));
    }

pub returns-in-20-to-255 : goal.returns-in-20-to-255
returns-in-20-to-255 c =
    let none = c.nothing-in-20-to-255.ensures in
    record {
      request = none.0 ∙ sym (is_unknown _ (omega arith) (omega arith) (omega arith) (omega arith) (omega arith));
      onward = none.1 ∙ sym (next_unknown _ (omega arith) (omega arith) (omega arith) (omega arith) (omega arith));
    }
