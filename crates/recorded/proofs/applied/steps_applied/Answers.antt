-- `applied::steps_applied` answers the steps that a person applied: after o turns it holds those of the folders below o, and where these
-- are all, the other folders add none.
use Prim.Native.Nat.{◌+◌}
use native.Mathlib.Omega.{arith}
use mathlib.Core.Path.{◌≡◌, sym, ◌∙◌}
use Rattle.recorded.proofs.GatheringLaws.{applied_start, applied_more, all_found, applied_all}
use borrow.Author.Rules.{rules}
use Rattle.recorded.proofs.applied.steps_applied.Goals as goal

pub loop-o-init : goal.loop-o-init
loop-o-init c = (search rules, applied_start c.args.t.now c.args.h.now c.args.s)

pub applied_if-steps-requires : goal.applied_if-steps-requires
applied_if-steps-requires c =
    let start = c in
    (c.requires, omega arith)

pub returns-then-steps : goal.returns-then-steps
returns-then-steps c =
    let loop = c.loop-o in
    let more = applied_more _ _ _ loop.o loop.invariant.1 c.applied_if-steps.ensures in
    c.if-steps.true ∙ all_found _ _ _ (loop.o + 1) (omega arith) (sym more ∙ c.if-steps.true)

pub loop-o-preserved : goal.loop-o-preserved
loop-o-preserved c =
    let loop = c.loop-o in
    (search rules, applied_more _ _ _ loop.o loop.invariant.1 c.applied_if-steps.ensures)

pub returns : goal.returns
returns c =
    let start = c in
    let all : c.loop-o.o ≡ 128 = omega arith in
    rw all at c.loop-o.invariant.1 ∙ applied_all c.args.t.now c.args.h.now c.args.s
