-- `past::past_of` answers what a person did: the first 64 folders, the next 64, and then the rights of the steps and of the starts.
use Prim.Native.Nat.{ℕ}
use native.Mathlib.Omega.{arith}
use mathlib.Core.Path.{◌≡◌, refl}
use mathlib.Core.Bool.{Bool, true}
use mathlib.Core.List.{List}
use Rattle.bits.specs.Bits.{mask_below}
use Rattle.policy.specs.declared.Tables.{Tables}
use Rattle.policy.specs.Tables.{person_declared}
use Rattle.policy.specs.Request.{set_of}
use Rattle.policy.proofs.Requests.{person_below_lem}
use Rattle.past.specs.declared.Past.{Past}
use Rattle.recorded.specs.Gathering.{applied_at}
use Rattle.past.specs.Past.{past_below, past_of}
use Rattle.recorded.specs.Recorded.{stepped_at, started}
use Rattle.past.specs.Turns.{rights_with}
use Rattle.recorded.proofs.FolderSets.{folders_low, folders_high}
use Rattle.past.proofs.Gathered.{past_start, past_whole}
use Rattle.past.proofs.past_of.Goals as goal

answer : (t : Tables) (h : List ℕ) (s : ℕ) → person_declared t s ≡ true → {persons steps rights : ℕ} {starts : Bool}
    → persons ≡ mask_below 64 (person_declared t) → steps ≡ mask_below 16 (applied_at t h s) → (gathered : Past)
    → gathered ≡ past_below t (set_of h) s 128 → starts ≡ started persons h s → rights ≡ rights_with gathered.rights steps starts
    → record { rights = rights; firms = gathered.firms } ≡ past_of t (set_of h) s
answer t h s person known applied gathered e b r = rw (r, b, e) (past_whole t h s person known applied)

pub past_over-low-requires : goal.past_over-low-requires
past_over-low-requires c =
    let start = c in
    let args = c.args in
    let pre = c.requires in
    let stepped = folders_low (stepped_at args.h.now args.s) pre.2 in
    (pre.0, refl, omega arith, stepped, past_start args.t.now.tables (set_of args.h.now) args.s)

pub past_over-past-requires : goal.past_over-past-requires
past_over-past-requires c =
    let start = c in
    let args = c.args in
    let pre = c.requires in
    (pre.0, refl, omega arith, folders_high (stepped_at args.h.now args.s) pre.2, c.past_over-low.ensures)

pub has_started-requires : goal.has_started-requires
has_started-requires c =
    let start = c in
    (person_below_lem _ _ c.requires.0)

pub returns : goal.returns
returns c =
    let start = c in
    let args = c.args in
    let folders = c.past_over-past in
    answer args.t.now.tables args.h.now args.s c.requires.0 c.requires.1 c.requires.3 folders.result folders.ensures
    c.has_started.ensures c.rights_with.ensures
