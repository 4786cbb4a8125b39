-- `parse_whole` reads the fields of a whole record: its kind is one of the four, and its bytes are there.
use native.Mathlib.Omega.{arith}
use mathlib.Core.Path.{sym}
use Rattle.request.specs.Parsed.{as_request}
use Rattle.request.proofs.WholeLaws.{next_known, whole_long, whole_low, whole_high, whole_there, whole_fields}
use Rattle.request.proofs.parse_whole.Goals as goal

pub bounds-bytes-0 : goal.bounds-bytes-0
bounds-bytes-0 c = omega (arith, whole_long _ c.requires)

pub bounds-bytes-1 : goal.bounds-bytes-1
bounds-bytes-1 c = omega (arith, whole_long _ c.requires)

pub bounds-bytes-more : goal.bounds-bytes-more
bounds-bytes-more c =
    let start = c in
    omega (arith, whole_there _ c.requires _ c.longer-more.ensures.0)

pub bounds-bytes-2 : goal.bounds-bytes-2
bounds-bytes-2 c = omega (arith, whole_long _ c.requires)

pub returns : goal.returns
unfolding as_request
returns c =
    let whole = c.requires in
    let bytes = c.args.bytes.now in
    let more = c.longer-more.ensures.0 in
    let low = whole_low bytes whole in
    let high = whole_high bytes whole in (
      record {
        request = whole_fields bytes whole _ more;
        onward = sym (next_known bytes _ more low high (whole_there bytes whole _ more));
      },
      omega (arith, low),
      omega (arith, high),
    )
