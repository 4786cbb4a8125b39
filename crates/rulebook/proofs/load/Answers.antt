-- `load` reads record by record. A record that is refused without the tables ends the load, and so does the end record. Of the others
-- `declare` answers what the checks on the tables say, and stores what the definition declares. So the book comes to what the definition
-- says, and of a record that is refused nothing is handed back.
use Rattle.std.proofs.Common.{◌≡◌, sym, ap, ◌∙◌}
use Rattle.bits.proofs.Booleans.{false_elim}
use Rattle.policy.specs.Refusals.{number_of}
use Rattle.rulebook.specs.Readings.{record_read, kind_of}
use Rattle.rulebook.proofs.KindLaws.{not_end}
use Rattle.rulebook.proofs.LoadLaws.{starts, less, refuses_some, refused_by_form, refused_is, goes_on}
use Rattle.rulebook.proofs.LoadLaws.{ended_by, ended_refused, ended_passed}
use Rattle.rulebook.proofs.load.Goals as goal
use Rattle.rulebook.proofs.load.Goals.{in-End, in_default}

pub loop-r-init : goal.loop-r-init
loop-r-init c = rw c.empty-t.ensures (starts _)

pub returns-in-Err : goal.returns-in-Err
returns-in-Err c = c.refuse.ensures ∙ refused_by_form c.loop-r.invariant c.in-Err.ensures.err (refuses_some c.in-Err.refusal)

pub loop-r-smaller : goal.loop-r-smaller
loop-r-smaller c = less c.loop-r.invariant c.in-Ok.ensures.ok

-- ---- the end record

pub returns-in-Err-end_answer : goal.returns-in-Err-end_answer
returns-in-Err-end_answer c =
    let is = sym (ap number_of c.in-Err-end_answer.is) ∙ c.end_answer.ensures in
    c.refuse-in-Err-end_answer.ensures
    ∙ sym (ended_refused _ _ is (refuses_some c.in-Err-end_answer.refusal))
    ∙ elim c.match-matches.branch [
      | in-End w ↦ ended_by c.loop-r.invariant c.in-Ok.ensures.ok (ap record_read w.in-End.is)
      | in_default w ↦ absurd (false_elim _ w.matches-is c.if-matches.true)
    ]

pub returns-then-matches : goal.returns-then-matches
returns-then-matches c =
    rw c.number_of.ensures (sym (ended_passed _ _ c.end_answer.ensures (ap number_of c.in_default-end_answer.is)))
    ∙ elim c.match-matches.branch [
      | in-End w ↦ ended_by c.loop-r.invariant c.in-Ok.ensures.ok (ap record_read w.in-End.is)
      | in_default w ↦ absurd (false_elim _ w.matches-is c.if-matches.true)
    ]

-- ---- a record that the tables refuse

pub returns-in-Err-declare : goal.returns-in-Err-declare
returns-in-Err-declare c =
    let is = sym (ap number_of c.in-Err-declare.is) ∙ c.declare.ensures.answers in
    c.refuse-in-Err-declare.ensures
    ∙ refused_is c.loop-r.invariant c.in-Ok.ensures.ok is (refuses_some c.in-Err-declare.refusal)

-- ---- a record that passes

pub loop-r-preserved : goal.loop-r-preserved
loop-r-preserved c =
    let read = c.in-Ok.ensures.ok in
    let passes = sym c.declare.ensures.answers ∙ ap number_of c.in_default-declare.is in
    let other : kind_of (record_read c.in-Ok.r.found) ≡ 0 → ⊥ =
    elim c.match-matches.branch [
      | in-End w ↦ absurd (false_elim _ c.if-matches.false w.matches-is)
      | in_default w ↦ not_end c.in-Ok.r.found w.in_default.not-End
    ] in
    rw c.declare.ensures.stores (goes_on c.loop-r.invariant read passes other)
