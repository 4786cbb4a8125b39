-- `judge` answers what refuses a request at once, or what the rules say to what it asks, one after another.
use Prim.Native.Nat.{ℕ}
use native.Mathlib.Omega.{arith}
use mathlib.Core.Path.{◌≡◌, refl, sym, ap, ◌∙◌}
use mathlib.Core.Bool.{true, cond, ◌&&◌}
use mathlib.Core.Option.{some}
use Rattle.std.proofs.lemmas.Result.{err_from_is_err_and}
use Rattle.bits.specs.Bits.{bit}
use Rattle.bits.specs.Bounded.{◌implies◌}
use Rattle.bits.proofs.Booleans.{and_left}
use Rattle.policy.specs.Tables.{wall_rule, roles_rule}
use Rattle.policy.specs.Request.{Request, set_of}
use Rattle.policy.specs.Levels.{level_at}
use Rattle.policy.specs.Rules.{wall_access, roles, pipeline_step}
use Rattle.policy.proofs.Requests.{person_below_lem, folder_below}
use Rattle.pipeline.proofs.StepLaws.{done_set, pipeline_in_lem}
use Rattle.request.specs.Parsed.{as_request}
use Rattle.questions.specs.Posing.{Posed}
use Rattle.questions.proofs.AskingLaws.{asked_in_range}
use Rattle.questions.proofs.JudgingLaws.{implies_true, request_number}
use Rattle.questions.proofs.Deciding.{first_refuses, then_roles, then_step, then_granted}
use Rattle.questions.proofs.Posings.{known_number, known_request}
use Rattle.questions.proofs.Answered.{never_zero}
use Rattle.judging.proofs.judge.Goals as goal
use Rattle.judging.proofs.judge.Goals.{
  In_ok-posed,
  After-wall_permits-permits,
  Joined-in_force,
  then-in_force+else-not-roles_permit,
  else-in_force,
}

-- ---- a request that asks the rules

asks : (p : In_ok-posed)
    → (request : Request) × (as_request p.args.parsed ≡ some request)
    × Posed p.args.t.now.tables (set_of p.args.h.now) (level_at p.args.l.now) p.from-s.result p.from-o.result p.args.parsed.step
    p.in_ok-posed.posed request
asks p =
    known_request p.args.t.now.tables (set_of p.args.h.now) p.args.parsed p.from-s.ensures p.from-o.ensures p.ask-asked.ensures _ _
    p.in_ok-posed.ensures

-- ---- what the rules say to it

walls : (p : After-wall_permits-permits)
    → p.wall_permits-permits.result
    ≡ cond (p.in_ok-posed.posed.access && bit p.args.t.now.tables.mask wall_rule)
    (wall_access p.args.t.now.tables (set_of p.args.h.now) p.from-s.result p.from-o.result) true
walls p = rw p.in_force.ensures at p.wall_permits-permits.ensures

-- where roles are in force, they permitted
permit : (p : Joined-in_force) (request : Request)
    → Posed p.args.t.now.tables (set_of p.args.h.now) (level_at p.args.l.now) p.from-s.result p.from-o.result p.args.parsed.step
    p.in_ok-posed.posed request
    → (bit p.args.t.now.tables.mask roles_rule implies roles p.args.t.now.tables (set_of p.args.h.now) request) ≡ true
permit p request posed =
    elim p.if-in_force.branch [
      | then-in_force+else-not-roles_permit w ↦
          let holds = sym (w.roles_permit.ensures request posed.parties posed.person posed.uses) ∙ w.if-not-roles_permit.false in
          rw holds (implies_true (bit p.args.t.now.tables.mask roles_rule))
      | else-in_force w ↦ rw (sym p.in_force-2.ensures ∙ w.if-in_force.false)
    ]

-- ---- the goals

pub pose-requires : goal.pose-requires
pose-requires c =
    let range = asked_in_range c.args.t.now.tables c.args.parsed c.from-s.ensures c.from-o.ensures in
    rw c.ask-asked.ensures range

pub returns-in_err-posed : goal.returns-in_err-posed
returns-in_err-posed c =
    let p = err_from_is_err_and c.from_residual.result c.from_residual.ensures.1 in
    rw (p.1, p.2)
    (known_number c.args.t.now.tables (set_of c.args.h.now) c.args.parsed c.from-s.ensures c.from-o.ensures c.ask-asked.ensures _ _
    c.in_err-posed.ensures)

pub wall_permits-permits-requires : goal.wall_permits-permits-requires
wall_permits-permits-requires c =
    let (request, is, posed) = asks (goal.at.wall_permits-permits-requires c).In_ok-posed in
    (posed.known, λ on. posed.folder (and_left _ _ on))

pub entry-stored-requires : goal.entry-stored-requires
entry-stored-requires c =
    let (request, is, posed) = asks (goal.at.entry-stored-requires c).In_ok-posed in
    person_below_lem _ _ posed.known

pub returns-in_err-first_answer : goal.returns-in_err-first_answer
returns-in_err-first_answer c =
    let at = goal.at.returns-in_err-first_answer c in
    let (request, is, posed) = asks at.In_ok-posed in
    let p = err_from_is_err_and c.from_residual-in_err-first_answer.result c.from_residual-in_err-first_answer.ensures.1 in
    rw (p.1, p.2)
    (first_refuses posed (walls at.After-wall_permits-permits) c.entry-stored.ensures c.in_err-first_answer.ensures
    (never_zero c.in_err-first_answer.field-0.0)
    ∙ request_number _ _ _ request is)

pub roles_permit-requires : goal.roles_permit-requires
roles_permit-requires c =
    let (request, is, posed) = asks (goal.at.roles_permit-requires c).In_ok-posed in
    (posed.known, c.role_rights-roles.ensures)

pub returns-then-not-roles_permit : goal.returns-then-not-roles_permit
returns-then-not-roles_permit c =
    let at = goal.at.returns-then-not-roles_permit c in
    let (request, is, posed) = asks at.In_ok-posed in
    let on = sym c.in_force-2.ensures ∙ c.if-in_force.true in
    let refuses = sym (c.roles_permit.ensures request posed.parties posed.person posed.uses) ∙ c.if-not-roles_permit.true in
    then_roles posed (walls at.After-wall_permits-permits) c.entry-stored.ensures c.in_ok-first_answer.ensures
    refl (rw on refuses)
    ∙ request_number _ _ _ request is

pub returns-then-not-posed-in_force : goal.returns-then-not-posed-in_force
returns-then-not-posed-in_force c =
    let at = goal.at.returns-then-not-posed-in_force c in
    let (request, is, posed) = asks at.In_ok-posed in
    let unasked = rw c.in_force-3.ensures at c.if-not-posed-in_force.true in
    then_granted posed (walls at.After-wall_permits-permits) c.entry-stored.ensures c.in_ok-first_answer.ensures
    refl (permit at.Joined-in_force request posed) unasked
    ∙ request_number _ _ _ request is

pub steps_done-done-requires : goal.steps_done-done-requires
steps_done-done-requires c =
    let (request, is, posed) = asks (goal.at.steps_done-done-requires c).In_ok-posed in
    let steps = and_left _ _ c.if-not-posed-in_force.false in
    folder_below _ _ (posed.stepped steps).1

pub returns : goal.returns
returns c =
    let at = goal.at.returns c in
    let (request, is, posed) = asks at.In_ok-posed in
    let steps = and_left _ _ c.if-not-posed-in_force.false in
    let (below, folder) = posed.stepped steps in
    let own = c.from.ensures in
    let done = done_set _ _ c.fits-h _ folder _ _ c.persons.ensures c.steps_done-done.ensures in
    let says =
    pipeline_in_lem _ _ _ _ _ c.from.result refl done (omega (arith, own, below))
    ∙ ap (λ (p : ℕ). pipeline_step c.args.t.now.tables (set_of c.args.h.now) p c.from-o.result) own in
    then_step posed (walls at.After-wall_permits-permits) c.entry-stored.ensures c.in_ok-first_answer.ensures
    refl (permit at.Joined-in_force request posed) steps says c.step_answer.ensures
    ∙ request_number _ _ _ request is
