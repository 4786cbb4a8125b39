-- `place` has the numbers that the row of the kind gives: each row holds small numbers, so that no product or sum leaves its width.
use Prim.Native.Nat.{◌/◌}
use native.Mathlib.Omega.{arith}
use mathlib.Core.Path.{refl}
use lib.Bits.{bit_and, and_le_l}
use Rattle.branchfree.specs.Kinds.{placed_by}
use Rattle.branchfree.proofs.KindLaws.{placed_as, first_most, by_person_most, by_place_most, first_set_most, product_most}
use Rattle.branchfree.proofs.FailingLaws.{as_one}
use Rattle.branchfree.proofs.kinds.place.Goals as goal

pub overflow_add-result : goal.overflow_add-result
overflow_add-result c =
    omega (
      arith,
      c.row-4.ensures,
      first_set_most c.args.r.kind,
      and_le_l c.from-o.result c.row.result,
      c.from-o.ensures,
    )

pub overflow_mul-result : goal.overflow_mul-result
overflow_mul-result c =
    let m = product_most c.row-by_person.result (bit_and c.from-s.result 63) 128 255
    (omega (
      arith,
      c.row-by_person.ensures,
      by_person_most c.args.r.kind,
    ))
    (omega (
      arith,
      and_le_l c.from-s.result 63,
      c.from-s.ensures,
    )) in
    omega (arith, m)

pub overflow_add-result-2 : goal.overflow_add-result-2
overflow_add-result-2 c =
    let m = product_most c.row-by_person.result (bit_and c.from-s.result 63) 128 255
    (omega (
      arith,
      c.row-by_person.ensures,
      by_person_most c.args.r.kind,
    ))
    (omega (
      arith,
      and_le_l c.from-s.result 63,
      c.from-s.ensures,
    )) in
    omega (
      arith,
      m,
      c.row-first.ensures,
      first_most c.args.r.kind,
    )

pub overflow_mul-result-2 : goal.overflow_mul-result-2
overflow_mul-result-2 c =
    let n = product_most c.row-by_place.result (bit_and c.from-o.result c.row.result) 1024 255
    (omega (
      arith,
      c.row-by_place.ensures,
      by_place_most c.args.r.kind,
    ))
    (omega (
      arith,
      and_le_l c.from-o.result c.row.result,
      c.from-o.ensures,
    )) in
    omega (arith, n)

pub overflow_add-result-3 : goal.overflow_add-result-3
overflow_add-result-3 c =
    let m = product_most c.row-by_person.result (bit_and c.from-s.result 63) 128 255
    (omega (
      arith,
      c.row-by_person.ensures,
      by_person_most c.args.r.kind,
    ))
    (omega (
      arith,
      and_le_l c.from-s.result 63,
      c.from-s.ensures,
    )) in
    let n = product_most c.row-by_place.result (bit_and c.from-o.result c.row.result) 1024 255
    (omega (
      arith,
      c.row-by_place.ensures,
      by_place_most c.args.r.kind,
    ))
    (omega (
      arith,
      and_le_l c.from-o.result c.row.result,
      c.from-o.ensures,
    )) in
    omega (
      arith,
      m,
      n,
      c.row-first.ensures,
      first_most c.args.r.kind,
    )

pub overflow_mul-result-3 : goal.overflow_mul-result-3
overflow_mul-result-3 c =
    omega (
      arith,
      and_le_l c.from-p.result c.row-2.result,
      c.from-p.ensures,
    )

pub overflow_add-result-4 : goal.overflow_add-result-4
overflow_add-result-4 c =
    let m = product_most c.row-by_person.result (bit_and c.from-s.result 63) 128 255
    (omega (
      arith,
      c.row-by_person.ensures,
      by_person_most c.args.r.kind,
    ))
    (omega (
      arith,
      and_le_l c.from-s.result 63,
      c.from-s.ensures,
    )) in
    let n = product_most c.row-by_place.result (bit_and c.from-o.result c.row.result) 1024 255
    (omega (
      arith,
      c.row-by_place.ensures,
      by_place_most c.args.r.kind,
    ))
    (omega (
      arith,
      and_le_l c.from-o.result c.row.result,
      c.from-o.ensures,
    )) in
    omega (
      arith,
      m,
      n,
      c.row-first.ensures,
      first_most c.args.r.kind,
      and_le_l c.from-p.result c.row-2.result,
      c.from-p.ensures,
    )

pub overflow_sub-s : goal.overflow_sub-s
overflow_sub-s c = and_le_l c.from-s.result 63

pub overflow_sub-o : goal.overflow_sub-o
overflow_sub-o c = and_le_l c.from-o.result c.row.result

pub overflow_add-s-2 : goal.overflow_add-s-2
overflow_add-s-2 c =
    omega (
      arith,
      c.from-s.ensures,
      c.from-o.ensures,
      c.from-p.ensures,
      and_le_l (c.from-p.result / 16) c.row-3.result,
    )

pub returns : goal.returns
unfolding placed_by
returns c =
    let r = c.args.r in
    let placed = placed_as r.kind r.person r.target r.step c.requires.0 c.requires.1 (omega (arith, c.from-p.ensures)) in
    rw (
      as_one _ c.from.ensures,
      c.from-s.ensures,
      c.from-o.ensures,
      c.from-p.ensures,
      c.row.ensures,
      c.row-2.ensures,
      c.row-3.ensures,
      c.row-first.ensures,
      c.row-by_person.ensures,
      c.row-by_place.ensures,
      c.row-4.ensures,
    )
    (refl, omega (arith, c.from-p.ensures), placed)
