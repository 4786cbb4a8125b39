-- `past::past_over` answers what a person did up to the last of 64 folders: those that were read, written or stepped on lead to it. Their
-- reads and writes are two words of the history.
use Prim.Native.Nat.{ℕ, ◌+◌, ◌*◌, ◌/◌, ◌%◌, ◌≤◌, ◌<◌}
use native.Mathlib.Omega.{arith}
use mathlib.Core.Path.{◌≡◌, ◌∙◌}
use mathlib.Core.Bool.{true}
use mathlib.Core.List.{List}
use lib.Bits.{bit_or}
use lib.ListN.{get_or}
use Rattle.bits.specs.Bits.{mask_below}
use Rattle.policy.specs.declared.Tables.{Tables}
use Rattle.policy.specs.Tables.{person_declared}
use Rattle.policy.specs.Rulebook.{given}
use Rattle.policy.specs.Request.{set_of}
use Rattle.policy.proofs.Requests.{person_below_lem}
use Rattle.history.specs.Words.{word_at}
use Rattle.past.specs.declared.Past.{Past}
use Rattle.past.specs.Past.{past_below}
use Rattle.recorded.specs.Recorded.{stepped_at}
use Rattle.past.specs.Turns.{past_turn, past_visiting}
use Rattle.recorded.specs.Visits.{Leads}
use Rattle.past.proofs.Gathered.{past_half}
use Rattle.recorded.proofs.Recorded.{word_reads, word_writes}
use Rattle.recorded.proofs.VisitLaws.{visit_end}
use Rattle.past.proofs.past_over.Goals as goal

words-lead : (t : Tables) (h : List ℕ) (s : ℕ) → person_declared t s ≡ true → given t ≡ true → (first : ℕ)
    → ((k : ℕ) → get_or h k 0 < 256) → first % 8 ≡ 0 → first + 64 ≤ 128 → {reads writes steps : ℕ} {before : Past}
    → reads ≡ word_at h (16 * s + first / 8) → writes ≡ word_at h (1024 + 16 * s + first / 8)
    → steps ≡ mask_below 64 (λ i. stepped_at h s (first + i)) → before ≡ past_below t (set_of h) s first
    → Leads (past_turn t first reads writes) (past_below t (set_of h) s (first + 64)) (bit_or (bit_or reads writes) steps) before
words-lead t h s person g first small place l r w p before =
    past_half t h s person g first l (r ∙ word_reads h s first _ small (omega (arith, place)))
    (w ∙ word_writes h s first _ small (omega (arith, place))) p before

pub overflow_mul-s : goal.overflow_mul-s
overflow_mul-s c =
    let start = c in
    omega (arith, c.requires.2, person_below_lem c.args.t.now.tables c.args.s c.requires.0)

pub overflow_add-s : goal.overflow_add-s
overflow_add-s c =
    let start = c in
    omega (arith, c.requires.2, person_below_lem c.args.t.now.tables c.args.s c.requires.0)

pub word_at-read-requires : goal.word_at-read-requires
word_at-read-requires c =
    let start = c in
    omega (arith, c.requires.2, person_below_lem c.args.t.now.tables c.args.s c.requires.0)

pub overflow_mul-s-2 : goal.overflow_mul-s-2
overflow_mul-s-2 c =
    let start = c in
    omega (arith, c.requires.2, person_below_lem c.args.t.now.tables c.args.s c.requires.0)

pub overflow_add-s-2 : goal.overflow_add-s-2
overflow_add-s-2 c =
    let start = c in
    omega (arith, c.requires.2, person_below_lem c.args.t.now.tables c.args.s c.requires.0)

pub overflow_add-s-3 : goal.overflow_add-s-3
overflow_add-s-3 c =
    let start = c in
    omega (arith, c.requires.2, person_below_lem c.args.t.now.tables c.args.s c.requires.0)

pub word_at-wrote-requires : goal.word_at-wrote-requires
word_at-wrote-requires c =
    let start = c in
    omega (arith, c.requires.2, person_below_lem c.args.t.now.tables c.args.s c.requires.0)

pub returns-then-set-eq0 : goal.returns-then-set-eq0
returns-then-set-eq0 c =
    let known = c in
    let start = c in
    let args = c.args in
    visit_end
    (words-lead args.t.now.tables args.h.now args.s c.requires.0 c.args.t.now.given args.first
    c.fits-h c.requires.1 c.requires.2
    c.word_at-read.ensures c.word_at-wrote.ensures c.requires.3 c.requires.4)
    c.if-set-eq0.true

pub returns : goal.returns
unfolding past_visiting
returns c =
    let known = c in
    let start = c in
    let args = c.args in
    c.past_visiting.ensures
    ∙ (words-lead args.t.now.tables args.h.now args.s c.requires.0 c.args.t.now.given args.first
    c.fits-h c.requires.1 c.requires.2
    c.word_at-read.ensures c.word_at-wrote.ensures c.requires.3
    c.requires.4).same
