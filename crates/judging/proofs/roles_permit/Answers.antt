-- `roles_permit` asks for a role without steps, then for one with all steps, and then with the steps that the person applied. Where the
-- first test passes, the rights found are those of all reads and writes.
use mathlib.Core.Path.{refl, sym, ◌∙◌}
use Rattle.policy.proofs.Requests.{person_below_lem}
use Rattle.judging.proofs.RoleRights.{least_refused, most_held, applied_decide}
use Rattle.judging.proofs.roles_permit.Goals as goal

pub has_started_declared-starts-requires : goal.has_started_declared-starts-requires
has_started_declared-starts-requires c = person_below_lem _ _ c.requires.0

pub returns-then-not-role_holds : goal.returns-then-not-role_holds
returns-then-not-role_holds c =
    let at-started = c in
    let start = c in
    least_refused c.args.t.now.tables c.args.h.now c.args.s c.args.t.now.given c.requires.0 c.requires.1
    refl c.has_started_declared-starts.ensures c.args.right
    c.rights_of_accesses-accesses.ensures.within (sym c.role_holds.ensures ∙ c.if-not-role_holds.true)

pub returns-then-role_holds : goal.returns-then-role_holds
returns-then-role_holds c =
    let at-started = c in
    let start = c in
    let tested = c in
    most_held c.args.t.now.tables c.args.h.now c.args.s c.args.t.now.given c.requires.0 c.requires.1
    refl c.has_started_declared-starts.ensures c.args.right
    c.rights_of_accesses-accesses.ensures (sym c.role_holds.ensures ∙ c.if-not-role_holds.false)
    (sym c.role_holds-2.ensures ∙ c.if-role_holds.true)

pub steps_applied-steps-requires : goal.steps_applied-steps-requires
steps_applied-steps-requires c =
    let start = c in
    person_below_lem _ _ c.requires.0

pub returns : goal.returns
returns c =
    let at-started = c in
    let start = c in
    let tested = c in
    applied_decide c.args.t.now.tables c.args.h.now c.args.s c.args.t.now.given c.requires.0 c.requires.1
    refl c.has_started_declared-starts.ensures c.args.right
    c.rights_of_accesses-accesses.ensures (sym c.role_holds.ensures ∙ c.if-not-role_holds.false)
    c.steps_applied-steps.ensures c.role_holds-3.ensures
