-- `rights::rights_over` answers the rights up to the last of 64 folders, or those found once no role holds them and the new right: the
-- folders that were read or written lead to the whole, and where there are none the rights before are the whole.
use Prim.Native.Nat.{ℕ, ◌+◌, ◌%◌, ◌<◌}
use native.Mathlib.Omega.{arith}
use mathlib.Core.Path.{◌≡◌, refl, sym, subst, ◌∙◌}
use lib.Bits.{bit_or}
use lib.ListN.{get_or}
use Rattle.policy.specs.Request.{set_of}
use Rattle.policy.proofs.Requests.{person_below_lem}
use Rattle.past.specs.Found.{FoundOf}
use Rattle.past.specs.Past.{rights_below}
use Rattle.past.specs.Turns.{rights_turn, rights_visiting}
use Rattle.recorded.specs.Visits.{Leads}
use Rattle.past.proofs.AccessRights.{rights_half}
use Rattle.past.proofs.FoundLaws.{found_held, found_further}
use Rattle.recorded.proofs.Recorded.{word_reads, word_writes}
use Rattle.recorded.proofs.VisitLaws.{visit_end}
use Rattle.past.proofs.rights.rights_over.Goals as goal
use Rattle.past.proofs.rights.rights_over.Goals.{After-word_at-wrote}

-- once both words are read, the folders that were read or written lead from the rights before them to the whole
leads-on : (w : After-word_at-wrote) {before : ℕ} → before ≡ rights_below w.args.t.now.tables (set_of w.args.h.now) w.args.s w.args.first
    → Leads (rights_turn w.args.t.now.tables w.args.first w.word_at-read.result w.word_at-wrote.result)
    (rights_below w.args.t.now.tables (set_of w.args.h.now) w.args.s (w.args.first + 64))
    (bit_or w.word_at-read.result w.word_at-wrote.result) before
leads-on w so_far =
    let args = w.args in
    let small : (k : ℕ) → get_or args.h.now k 0 < 256 = w.fits-h in
    rights_half args.t.now.tables args.h.now args.s w.requires.0 w.args.t.now.given args.first w.requires.2
    (w.word_at-read.ensures ∙ word_reads args.h.now args.s args.first _ small (omega (arith, w.requires.1)))
    (w.word_at-wrote.ensures ∙ word_writes args.h.now args.s args.first _ small (omega (arith, w.requires.1))) so_far

pub overflow_mul-s : goal.overflow_mul-s
overflow_mul-s c =
    omega (arith, c.requires.2, person_below_lem c.args.t.now.tables c.args.s c.requires.0)

pub overflow_add-s : goal.overflow_add-s
overflow_add-s c =
    omega (arith, c.requires.2, person_below_lem c.args.t.now.tables c.args.s c.requires.0)

pub word_at-read-requires : goal.word_at-read-requires
word_at-read-requires c =
    omega (arith, c.requires.2, person_below_lem c.args.t.now.tables c.args.s c.requires.0)

pub overflow_mul-s-2 : goal.overflow_mul-s-2
overflow_mul-s-2 c =
    omega (arith, c.requires.2, person_below_lem c.args.t.now.tables c.args.s c.requires.0)

pub overflow_add-s-2 : goal.overflow_add-s-2
overflow_add-s-2 c =
    omega (arith, c.requires.2, person_below_lem c.args.t.now.tables c.args.s c.requires.0)

pub overflow_add-s-3 : goal.overflow_add-s-3
overflow_add-s-3 c =
    omega (arith, c.requires.2, person_below_lem c.args.t.now.tables c.args.s c.requires.0)

pub word_at-wrote-requires : goal.word_at-wrote-requires
word_at-wrote-requires c =
    omega (arith, c.requires.2, person_below_lem c.args.t.now.tables c.args.s c.requires.0)

pub returns-then-read-wrote-eq0 : goal.returns-then-read-wrote-eq0
returns-then-read-wrote-eq0 c =
    let args = c.args in
    subst (λ (whole : ℕ). FoundOf args.roles.now (args.right % 64) whole args.before)
    (visit_end (leads-on (goal.at.returns-then-read-wrote-eq0 c).After-word_at-wrote refl) c.if-read-wrote-eq0.true) c.requires.3

pub returns-then-not-some_role_holds : goal.returns-then-not-some_role_holds
returns-then-not-some_role_holds c =
    let args = c.args in
    found_further args.t.now.tables (set_of args.h.now) args.s args.first (args.first + 64) (omega arith) c.requires.3
    (sym c.some_role_holds.ensures ∙ c.if-not-some_role_holds.true)

pub returns : goal.returns
unfolding rights_visiting
returns c =
    let args = c.args in
    let held = sym c.some_role_holds.ensures ∙ c.if-not-some_role_holds.false in
    subst (λ (whole : ℕ). FoundOf args.roles.now (args.right % 64) whole c.rights_visiting.result)
    (leads-on (goal.at.returns c).After-word_at-wrote (found_held c.requires.3 held)).same c.rights_visiting.ensures
