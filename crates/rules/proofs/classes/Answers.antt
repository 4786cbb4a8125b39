-- `classes` gathers the sets of the firms of each class: before each turn they have the firms below the number reached.
use Prim.Native.Nat.{◌%◌}
use native.Mathlib.Omega.{arith}
use mathlib.Core.Path.{◌≡◌, ◌∙◌}
use Rattle.rules.proofs.ClassLaws.{class_below, classes_none, classes_more, classes_all}
use borrow.Author.Rules.{rules}
use Rattle.rules.proofs.classes.Goals as goal

pub loop-f-init : goal.loop-f-init
loop-f-init c = (search rules, classes_none _)

pub offset_bounds-sets-class : goal.offset_bounds-sets-class
offset_bounds-sets-class c = omega (arith, c.from-class.ensures)

pub bounds-sets-class : goal.bounds-sets-class
bounds-sets-class c =
    let looped = c.loop-f in
    let start = c in
    omega (arith, c.from-class.ensures, class_below c.args.t.now.tables looped.f c.args.t.now.given (omega arith))

pub offset_bounds-sets-class-in-loop-f : goal.offset_bounds-sets-class-in-loop-f
offset_bounds-sets-class-in-loop-f c = omega (arith, c.from-class.ensures)

pub bounds-sets-class-in-loop-f : goal.bounds-sets-class-in-loop-f
bounds-sets-class-in-loop-f c =
    let looped = c.loop-f in
    let start = c in
    omega (arith, c.from-class.ensures, class_below c.args.t.now.tables looped.f c.args.t.now.given (omega arith))

pub loop-f-preserved : goal.loop-f-preserved
loop-f-preserved c =
    let looped = c.loop-f in
    let start = c in
    let own : looped.f % 64 ≡ looped.f = omega arith in
    let small = class_below c.args.t.now.tables looped.f c.args.t.now.given (omega arith) in (
      search rules,
      classes_more _ looped.f _ looped.invariant.1 c.from-class.ensures (omega (arith, c.from-class.ensures))
          (c.with_bit.ensures ∙ rw own),
    )

pub returns : goal.returns
returns c =
    let looped = c.loop-f in
    let all : looped.f ≡ 64 = omega arith in
    classes_all _ _ (rw all at looped.invariant.1)
