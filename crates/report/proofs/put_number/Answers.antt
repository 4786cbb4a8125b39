-- `report::put_number` puts a number and what follows it into a buffer, one after the other.
use Prim.Native.Nat.{◌≤◌}
use native.Mathlib.Omega.{arith}
use lib.ListN.{length}
use Rattle.report.specs.Text.{number_then}
use Rattle.report.proofs.LineLaws.{number_then_length}
use Rattle.report.proofs.PutLaws.{put_more}
use Rattle.report.proofs.put_number.Goals as goal

pub put_decimal-end-requires : goal.put_decimal-end-requires
put_decimal-end-requires c =
    let start = c in
    omega (arith, c.requires, number_then_length c.args.n c.args.after.now)

pub put_bytes-requires : goal.put_bytes-requires
put_bytes-requires c =
    let start = c in
    let number = c.put_decimal-end in
    omega
    (arith, c.requires, number.ensures.end, number.auto.out, number_then_length c.args.n c.args.after.now)

pub returns : goal.returns
unfolding number_then
returns c =
    let start = c in
    let room : c.args.at ≤ length c.args.out.now = omega (arith, c.requires) in
    put_more room c.put_decimal-end.ensures c.put_bytes.ensures
