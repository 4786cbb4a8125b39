-- `among` joins the sets of the numbers, the lowest first: those that are left lead from what is joined to the whole.
use native.Mathlib.Omega.{arith}
use mathlib.Core.Path.{◌≡◌, refl}
use Rattle.recorded.proofs.VisitLaws.{visited_lt, visit_next, visit_end}
use Rattle.gathering.specs.Users.{join_set}
use Rattle.gathering.proofs.RoleLaws.{among_start, among_is}
use borrow.Author.Rules.{rules}
use Rattle.gathering.proofs.roles.among.Goals as goal

pub loop-x-init : goal.loop-x-init
loop-x-init c =
    let all : c.into_iter-x-iterator.result.0 ≡ c.args.numbers =
    rw c.into_iter-x-iterator.ensures.into_iter_gives c.members-x-items.ensures in
    rw all (among_start _ _ (search rules))

pub offset_bounds-sets-x : goal.offset_bounds-sets-x
offset_bounds-sets-x c =
    let steps = c.in-Some.ensures.steps in
    omega (arith, visited_lt c.loop-x.invariant steps.0 steps.1)

pub bounds-sets-x : goal.bounds-sets-x
bounds-sets-x c =
    let steps = c.in-Some.ensures.steps in
    omega (arith, visited_lt c.loop-x.invariant steps.0 steps.1)

pub loop-x-preserved : goal.loop-x-preserved
unfolding join_set
loop-x-preserved c =
    let steps = c.in-Some.ensures.steps in
    visit_next c.loop-x.invariant steps.0 steps.1 steps.2 refl

pub returns : goal.returns
returns c = λ s. among_is _ _ s (visit_end c.loop-x.invariant c.in-None.ensures.steps.0)
