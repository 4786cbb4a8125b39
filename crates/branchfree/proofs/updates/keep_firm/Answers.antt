-- `keep_firm` adds the firm where the wall is in force, the request is granted and its folder counts.
use mathlib.Core.Path.{sym, ap, ◌∙◌}
use mathlib.Core.Bool.{◌&&◌}
use lib.Bits.{mask_lt}
use lib.ListN.{get_or, set}
use Rattle.bits.proofs.BitLaws.{with_masked_bit_if}
use Rattle.branchfree.proofs.UpdateLaws.{masked_one}
use Rattle.branchfree.proofs.updates.keep_firm.Goals as goal

pub overflow_shl-firms : goal.overflow_shl-firms
overflow_shl-firms c = mask_lt c.args.firm 6

pub returns-then-in_force : goal.returns-then-in_force
returns-then-in_force c =
    λ b counted e f.
    let args = c.args in
    let own = get_or args.firms.now args.s 0 in
    rw (sym c.in_force.ensures ∙ c.if-in_force.true)
    (ap (set args.firms.now args.s) (with_masked_bit_if 6 own args.firm _ (b && counted) (masked_one b counted e f)))

pub returns-else-in_force : goal.returns-else-in_force
returns-else-in_force c = λ b counted e f. rw (sym c.in_force.ensures ∙ c.if-in_force.false)
