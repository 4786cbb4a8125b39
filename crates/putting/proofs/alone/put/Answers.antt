-- `put` judges the request at the front of the bytes alone, and records it where it is granted.
use mathlib.Core.Path.{refl}
use Rattle.std.proofs.lemmas.Result.{err_from_is_err_and}
use Rattle.questions.proofs.Answered.{never_zero}
use Rattle.putting.proofs.Turns.{as_turned}
use Rattle.putting.proofs.PutAlone.{granted_fits, granted_leaves, refused_leaves}
use Rattle.putting.proofs.alone.put.Goals as goal

pub returns-in_err-judge : goal.returns-in_err-judge
returns-in_err-judge c =
    let p = err_from_is_err_and c.from_residual.result c.from_residual.ensures.1 in
    let number = c.in_err-judge.ensures in
    let left = refused_leaves c.args.t.now.tables c.args.h.now c.args.l.now _ number (never_zero c.in_err-judge.field-0.0) in
    let turned = as_turned (record { tables = c.args.t.now.given; size = c.told-h; held = c.told-l }) c.parse-parsed.ensures number left in
    rw (p.1, p.2) (turned.judged_as, turned.left)

pub record-requires : goal.record-requires
record-requires c = granted_fits c.args.t.now.tables c.args.h.now c.args.l.now _ c.in_ok-judge.ensures refl

pub returns : goal.returns
returns c =
    let number = c.in_ok-judge.ensures in
    let left = granted_leaves c.args.t.now.tables c.args.h.now c.args.l.now _ number refl (rw c.from.ensures) c.«record».ensures in
    let turned = as_turned (record { tables = c.args.t.now.given; size = c.told-h; held = c.told-l }) c.parse-parsed.ensures number left in
    (turned.judged_as, turned.left)
