-- `kweldabe_plan` is `PlanBy` of what loading returned: nothing changes where a check refuses or the plan does, and otherwise the positions
-- of the plan are written.
use native.Mathlib.Omega.{arith}
use mathlib.Core.Path.{sym}
use Rattle.loaded.proofs.CallLaws.{wrong_length, wrong_levels, all_pass}
use Rattle.exports.proofs.Books.{loaded_tables}
use Rattle.exports.proofs.Positions.{book_refused_lem, lengths_refused, few_positions, plan_refused, plan_found}
use Rattle.exports.proofs.kweldabe_plan.Goals as goal

pub returns-then-given-ne-GRANTED : goal.returns-then-given-ne-GRANTED
returns-then-given-ne-GRANTED c = book_refused_lem c.load-given.ensures _ _ _ c.if-given-ne-GRANTED.true

pub returns-then-history-ne-BYTES : goal.returns-then-history-ne-BYTES
returns-then-history-ne-BYTES c =
    let checks = sym (wrong_length _ _ c.if-history-ne-BYTES.true) in
    rw c.from.ensures (lengths_refused c.load-given.ensures _ _ _ c.if-given-ne-GRANTED.false 10 checks (λ e. omega arith))

pub returns-then-levels-ne-BYTES : goal.returns-then-levels-ne-BYTES
returns-then-levels-ne-BYTES c =
    let checks = sym (wrong_levels _ _ c.if-history-ne-BYTES.false c.if-levels-ne-BYTES.true) in
    rw c.from-then-levels-ne-BYTES.ensures
    (lengths_refused c.load-given.ensures _ _ _ c.if-given-ne-GRANTED.false 20 checks (λ e. omega arith))

pub returns-then-positions-lt64 : goal.returns-then-positions-lt64
returns-then-positions-lt64 c =
    let loaded = c.load-given.ensures in
    let given = loaded_tables _ loaded c.if-given-ne-GRANTED.false in
    let passed = all_pass _ _ c.if-history-ne-BYTES.false c.if-levels-ne-BYTES.false given in
    rw c.from-then-positions-lt64.ensures (few_positions loaded _ _ _ c.if-given-ne-GRANTED.false passed c.if-positions-lt64.true)

pub invariant_of-t : goal.invariant_of-t
invariant_of-t c = record { given = loaded_tables _ c.load-given.ensures c.if-given-ne-GRANTED.false }

pub returns-then-plan-ne-GRANTED : goal.returns-then-plan-ne-GRANTED
returns-then-plan-ne-GRANTED c =
    let loaded = c.load-given.ensures in
    let given = loaded_tables _ loaded c.if-given-ne-GRANTED.false in
    let passed = all_pass _ _ c.if-history-ne-BYTES.false c.if-levels-ne-BYTES.false given in
    plan_refused loaded _ _ _ c.if-given-ne-GRANTED.false passed c.if-positions-lt64.false _ c.plan-plan.ensures c.if-plan-ne-GRANTED.true

pub returns : goal.returns
returns c =
    let loaded = c.load-given.ensures in
    let given = loaded_tables _ loaded c.if-given-ne-GRANTED.false in
    let passed = all_pass _ _ c.if-history-ne-BYTES.false c.if-levels-ne-BYTES.false given in
    plan_found loaded _ _ _ c.if-given-ne-GRANTED.false passed c.if-positions-lt64.false _ c.plan-plan.ensures c.if-plan-ne-GRANTED.false
    c.put_positions.ensures
