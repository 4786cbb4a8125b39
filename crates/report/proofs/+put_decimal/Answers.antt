-- `report::put_decimal` puts the digits of a number into a buffer: the call of itself puts those before the last one.
use Prim.Native.Nat.{◌+◌, ◌%◌, ◌≤◌, ◌<◌}
use native.Mathlib.Omega.{arith}
use mathlib.Core.Path.{ap}
use lib.ListN.{length}
use Rattle.report.proofs.DecimalLaws.{decimal_small, decimal_more, decimal_more_length}
use Rattle.report.proofs.PutLaws.{put_more, put_one}
use Rattle.report.proofs.+put_decimal.Goals as goal

pub bounds-out-at : goal.bounds-out-at
bounds-out-at t c = omega (arith, ap length (decimal_small c.args.n c.if-n-lt-TWO_DIGITS.true))

pub returns-then-n-lt-TWO_DIGITS : goal.returns-then-n-lt-TWO_DIGITS
returns-then-n-lt-TWO_DIGITS t c =
    let args = c.args in
    let small = decimal_small args.n c.if-n-lt-TWO_DIGITS.true in
    let below : args.at < length args.out.now = omega (arith, ap length small) in
    rw small (put_one args.out.now args.at (48 + args.n) below)

pub put_decimal-last-requires : goal.put_decimal-last-requires
put_decimal-last-requires t c =
    let more = decimal_more_length c.args.n c.if-n-lt-TWO_DIGITS.false in
    (omega arith, omega arith)

pub bounds-out-last : goal.bounds-out-last
bounds-out-last t c =
    omega (arith, c.put_decimal-last.ensures.end, decimal_more_length c.args.n c.if-n-lt-TWO_DIGITS.false)

pub overflow_add-result-2 : goal.overflow_add-result-2
overflow_add-result-2 t c =
    omega (arith, c.put_decimal-last.ensures.end, decimal_more_length c.args.n c.if-n-lt-TWO_DIGITS.false)

pub returns : goal.returns
returns t c =
    let args = c.args in
    let front = c.put_decimal-last in
    let large = c.if-n-lt-TWO_DIGITS.false in
    let below : front.result < length front.new.out =
    omega (arith, front.ensures.end, front.auto.out, c.requires, decimal_more_length args.n large) in
    let room : args.at ≤ length args.out.now = omega (arith, c.requires) in
    let last = put_one front.new.out front.result (48 + args.n % 10) below in
    rw (decimal_more args.n large) (put_more room front.ensures last)
