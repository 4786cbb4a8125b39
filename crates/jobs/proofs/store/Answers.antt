-- `store` writes the four bytes of a job into the four places of its place in the list.
use Rattle.std.proofs.Common.{arith, ap, ◌∙◌, List, ℕ, ◌*◌, ◌+◌, ◌-◌}
use Rattle.jobs.proofs.PackingLaws.{stored_in, four_written}
use borrow.Rule.Slice.PartMut.{put_mid}
use Rattle.jobs.proofs.store.Goals as goal

pub returns-then-i-lt65 : goal.returns-then-i-lt65
returns-then-i-lt65 c =
    let p = c.args.p in
    let at = 4 * c.args.i in
    ap (λ (bytes : List ℕ). record { len = p.len; bytes = put_mid at (at + 4 - at) p.bytes bytes }) c.copy_from_slice.ensures.after
    ∙ four_written p c.args.i c.args.job (omega (arith, c.if-i-lt65.true))
    ∙ stored_in p c.args.i c.args.job c.if-i-lt65.true
