-- `sorted_positions` hands back an order that was tried, and otherwise has none: jobs keep each other back, or the trial was refused.
use Rattle.std.proofs.lemmas.Result.{err_from_is_err_and}
use Rattle.policy.specs.Calls.{state}
use Rattle.listed.proofs.JobBytes.{jobs_length}
use Rattle.planning.proofs.PlanLaws.{kept_back, places_below, granted_plan, refused_plan}
use Rattle.planning.proofs.Asked.{none_refuses}
use Rattle.planning.proofs.sorted_positions.Goals as goal

pub returns-in_err-positions : goal.returns-in_err-positions
returns-in_err-positions c =
    let size = jobs_length c.args.n c.args.jobs.now c.requires.1 in
    let p = err_from_is_err_and c.from_residual.result c.from_residual.ensures.1 in
    let none = c.in_err-positions.ensures.ok_part in
    rw (p.1, p.2, none_refuses _ none c.in_err-positions.ensures.value)
    (kept_back _ _ _ (record { tables = c.args.t.now.given; size = c.told-h; held = c.told-levels }) (rw size c.requires.0) c.requires.2 (rw none at c.order.ensures))

pub is_granted-requires : goal.is_granted-requires
is_granted-requires c =
    let size = jobs_length c.args.n c.args.jobs.now c.requires.1 in
    let found = rw c.in_ok-positions.ensures.ok_part at c.order.ensures in
    let places = places_below _ (state _ _) _ (record { tables = c.args.t.now.given; size = c.told-h; held = c.told-levels }) (rw size c.requires.0) c.requires.2 found in
    (c.requires.0, c.requires.1, rw size at places, c.requires.2)

pub returns-then-not-is_granted : goal.returns-then-not-is_granted
returns-then-not-is_granted c =
    let size = jobs_length c.args.n c.args.jobs.now c.requires.1 in
    let found = rw c.in_ok-positions.ensures.ok_part at c.order.ensures in
    refused_plan _ _ _ (record { tables = c.args.t.now.given; size = c.told-h; held = c.told-levels }) (rw size c.requires.0) c.requires.2 found (rw (← size) at c.is_granted.ensures)
    c.if-not-is_granted.true

pub returns : goal.returns
returns c =
    let size = jobs_length c.args.n c.args.jobs.now c.requires.1 in
    let found = rw c.in_ok-positions.ensures.ok_part at c.order.ensures in
    granted_plan _ _ _ (record { tables = c.args.t.now.given; size = c.told-h; held = c.told-levels }) (rw size c.requires.0) c.requires.2 found (rw (← size) at c.is_granted.ensures)
    c.if-not-is_granted.false
