-- `report::put_two_numbers` puts two numbers and the line's end into a buffer, one after the other.
use Prim.Native.Nat.{◌≤◌}
use native.Mathlib.Omega.{arith}
use lib.ListN.{length}
use Rattle.report.specs.Text.{line_feed, two_numbers}
use Rattle.report.proofs.LineLaws.{two_numbers_parts}
use Rattle.report.proofs.PutLaws.{put_more}
use Rattle.report.proofs.put_two_numbers.Goals as goal

pub put_number-second-requires : goal.put_number-second-requires
put_number-second-requires c =
    let start = c in
    omega (arith, c.requires, two_numbers_parts c.args.a c.args.between.now c.args.b)

pub put_number-requires : goal.put_number-requires
unfolding line_feed
put_number-requires c =
    let start = c in
    let number = c.put_number-second in
    let parts = two_numbers_parts c.args.a c.args.between.now c.args.b in
    omega (arith, c.requires, number.ensures.end, number.auto.out, parts)

pub returns : goal.returns
unfolding two_numbers line_feed
returns c =
    let start = c in
    let room : c.args.at ≤ length c.args.out.now = omega (arith, c.requires) in
    let number = c.put_number-second in
    put_more room number.ensures c.put_number.ensures
