-- `put_record` stores four bytes, of which the first three or four are the record.
use Prim.Native.Nat.{ℕ, ◌+◌}
use native.Mathlib.Omega.{arith}
use mathlib.Core.Path.{ap}
use Rattle.listed.proofs.RecordLaws.{record_stored}
use Rattle.listed.proofs.records.put_record.Goals as goal

pub overflow_add-result : goal.overflow_add-result
overflow_add-result c = omega (arith, c.record_length.ensures.1)

pub returns : goal.returns
returns c =
    rw c.copy_from_slice.ensures.after
    (record_stored c.args.out.now c.args.at c.args.job c.requires c.third.ensures
    (ap (λ (n : ℕ). c.args.at + n) c.record_length.ensures.0))
