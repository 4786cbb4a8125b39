-- `persons` is the set of the declared persons: before each turn it has those below the number reached.
use Prim.Native.Nat.{◌%◌}
use native.Mathlib.Omega.{arith}
use mathlib.Core.Path.{◌≡◌, sym, ◌∙◌}
use borrow.Author.Tests.{lt-ltb}
use Rattle.bits.proofs.Masks.{mask_start, mask_step}
use Rattle.policy.specs.Tables.{person_at, person_declared}
use borrow.Author.Rules.{rules}
use Rattle.past.proofs.persons.Goals as goal

pub loop-s-init : goal.loop-s-init
loop-s-init c = (search rules, sym (mask_start _))

pub loop-s-preserved : goal.loop-s-preserved
unfolding person_declared
loop-s-preserved c =
    let loop = c.loop-s in
    let t = c.args.t.now in
    let s = loop.s in
    let own : s % 64 ≡ s = omega arith in
    let entry : person_declared t s ≡ (person_at t s).declared = rw (lt-ltb s 64 (omega arith)) in
    (search rules, mask_step s (person_declared t) loop.invariant.1 (c.with_bit64_if-set.ensures ∙ rw (own, entry)))

pub returns : goal.returns
returns c =
    let loop = c.loop-s in
    let all : loop.s ≡ 64 = omega arith in
    rw all at loop.invariant.1
