-- `report::put_lines` puts the lines from a place on into a buffer: each turn puts one more, and the loop ends where there is no number or
-- no room for a line any more.
use Prim.Native.Nat.{◌+◌, ◌-◌, ◌≤◌}
use native.Mathlib.Omega.{arith}
use lib.ListN.{length, get_or}
use Rattle.report.proofs.LineLaws.{line_length}
use Rattle.report.proofs.FillingLaws.{reached_start, reached_more, reached_all, fitting_full, fitting_end}
use Rattle.report.proofs.put_lines.Goals as goal

pub loop-next-init : goal.loop-next-init
loop-next-init c =
    let args = c.args in
    reached_start args.numbers.now args.first args.out.now

pub returns-then-out-len-lt-LINE : goal.returns-then-out-len-lt-LINE
returns-then-out-len-lt-LINE c =
    let reached = c.loop-next.invariant in
    reached_all reached (fitting_full _ _ _ (omega (arith, c.if-out-len-lt-LINE.true, reached.same)))

pub loop-next-preserved : goal.loop-next-preserved
loop-next-preserved c =
    let start = c in
    let numbers = c.args.numbers.now in
    let reached = c.loop-next in
    let below = c.loop-next-test.true in
    let put = c.put_line-len in
    let byte = c.type_inv.numbers reached.next in
    let left = c.if-out-len-lt-LINE.false in
    let room : 32 ≤ length c.args.out.now - reached.len = omega (arith, left, reached.invariant.same) in
    let short = line_length (reached.next + 1) (get_or numbers reached.next 0) (omega (arith, below)) (omega (arith, byte)) in
    reached_more reached.invariant below room short put.auto.out put.ensures

pub returns : goal.returns
returns c = reached_all c.loop-next.invariant (fitting_end _ _ _ c.loop-next-test.false)
