-- `run_from` ends a run that has begun: whatever run it is, what is written and what the rest of the requests gives on the history and the
-- levels so far are at each turn what the whole run gives.
use native.Mathlib.Omega.{arith}
use mathlib.Core.Path.{sym, subst}
use lib.ListN.{drop, length-set}
use borrow.Author.Rules.{part_to_end}
use Rattle.policy.specs.Calls.{State, state}
use Rattle.policy.specs.Refusals.{number_of}
use Rattle.questions.proofs.Answered.{counts_one}
use Rattle.questions.specs.Judging.{Ready}
use Rattle.putting.proofs.Records.{next_at_within, next_at_further, due_at}
use Rattle.putting.proofs.Turns.{as_turned, ready_put, granted_one, done_more, done_all, room_more}
use Rattle.putting.proofs.PutAlone.{granted_fits}
use borrow.Author.Rules.{rules}
use Rattle.putting.proofs.alone.run_from.Goals as goal

pub loop-at-init : goal.loop-at-init
loop-at-init c = (
  c.requires,
  search rules,
  (record { tables = c.args.t.now.given; size = c.told-h; held = c.told-l }),
  λ a room same done.
      done,
)

pub record_if_granted-requires : goal.record_if_granted-requires
record_if_granted-requires c = granted_fits _ _ _ _ c.judge-answer.ensures

pub bounds-answers-i : goal.bounds-answers-i
bounds-answers-i c =
    let looped = c.loop-at in
    let requests = c.args.requests.now in
    let below = c.loop-at-test.true in
    let room = looped.invariant.0 in
    omega (arith, room.enough, looped.invariant.1, due_at requests looped.at below)

pub overflow_add-i : goal.overflow_add-i
overflow_add-i c =
    let looped = c.loop-at in
    let requests = c.args.requests.now in
    let below = c.loop-at-test.true in
    let room = looped.invariant.0 in
    omega (arith, below, room.further)

pub overflow_add-granted : goal.overflow_add-granted
overflow_add-granted c =
    let looped = c.loop-at in
    let requests = c.args.requests.now in
    let below = c.loop-at-test.true in
    let room = looped.invariant.0 in
    let one = counts_one c.judge-answer.result (rw c.is_ok.ensures.value at c.from-granted.ensures) in
    omega (arith, below, room.further, room.grants, granted_one (number_of c.judge-answer.result) _ one)

pub overflow_add-at : goal.overflow_add-at
overflow_add-at c =
    let looped = c.loop-at in
    let requests = c.args.requests.now in
    let below = c.loop-at-test.true in
    let room = looped.invariant.0 in
    let parsed = rw part_to_end at c.parse-parsed.ensures in
    omega (arith, parsed.onward, next_at_within requests looped.at below)

pub loop-at-smaller : goal.loop-at-smaller
loop-at-smaller c =
    let looped = c.loop-at in
    let requests = c.args.requests.now in
    let below = c.loop-at-test.true in
    let room = looped.invariant.0 in
    let parsed = rw part_to_end at c.parse-parsed.ensures in
    omega (arith, below, parsed.onward, next_at_within requests looped.at below, next_at_further requests looped.at below)

pub loop-at-preserved : goal.loop-at-preserved
loop-at-preserved c =
    let looped = c.loop-at in
    let requests = c.args.requests.now in
    let below = c.loop-at-test.true in
    let room = looped.invariant.0 in
    let parsed = rw part_to_end at c.parse-parsed.ensures in
    let t = c.args.t.now.tables in
    let ready = looped.invariant.2 in
    let number = c.judge-answer.ensures in
    let left = c.record_if_granted.ensures.left _ number (rw c.from.ensures) in
    let turn = as_turned ready parsed number left in
    let one = counts_one c.judge-answer.result (rw c.is_ok.ensures.value at c.from-granted.ensures) in
    rw c.number_of.ensures (
      room_more room below parsed.onward (granted_one (number_of c.judge-answer.result) _ one),
      simp length-set looped.invariant.1,
      subst (λ (s : State). Ready t s.history s.levels) (sym turn.left)
          (ready_put t (state looped.h looped.l) (drop looped.at requests) ready),
      λ a answers same begun.
          done_more (looped.invariant.3 a answers same begun) below
          (omega (arith, room.enough, same, due_at requests looped.at below)) turn one,
    )

pub overflow_sub-refused : goal.overflow_sub-refused
overflow_sub-refused c = omega (arith, c.loop-at.invariant.0.grants, c.loop-at.invariant.0.further)

pub shape_of-answers : goal.shape_of-answers
shape_of-answers c = c.loop-at.invariant.1

pub returns : goal.returns
returns c = λ a room same begun. done_all (c.loop-at.invariant.3 a room same begun) (omega arith)
