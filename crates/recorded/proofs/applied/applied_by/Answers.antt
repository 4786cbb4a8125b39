-- `applied::applied_by` answers the steps that a person applied to declared folders: the first 64 folders, and then the next 64. Where the
-- person stepped on none, both halves add nothing.
use Prim.Native.Nat.{ℕ}
use native.Mathlib.Omega.{arith}
use mathlib.Core.Path.{◌≡◌, ◌∙◌}
use mathlib.Core.List.{List}
use Rattle.policy.specs.declared.Tables.{Tables}
use Rattle.recorded.specs.declared.Folders.{Folders}
use Rattle.recorded.specs.Folders.{folders_of}
use Rattle.recorded.specs.Gathering.{applied_below}
use Rattle.recorded.specs.Recorded.{stepped_at}
use Rattle.recorded.proofs.FolderSets.{folders_low, folders_high}
use Rattle.recorded.proofs.GatheringLaws.{applied_start, applied_half, applied_all}
use Rattle.recorded.proofs.VisitLaws.{visit_end}
use Rattle.recorded.proofs.applied.applied_by.Goals as goal

none-applied : (t : Tables) (h : List ℕ) (s : ℕ) {set : Folders} → set ≡ folders_of (stepped_at h s) → set.low ≡ 0 → set.high ≡ 0
    → 0 ≡ applied_below t h s 128
none-applied t h s found low high =
    let first = visit_end (applied_half t h s 0 (omega arith) (folders_low (stepped_at h s) found) (applied_start t h s)) low in
    visit_end (applied_half t h s 64 (omega arith) (folders_high (stepped_at h s) found) first) high

pub returns-then-stepped-eq0-2 : goal.returns-then-stepped-eq0-2
returns-then-stepped-eq0-2 c =
    let start = c in
    let args = c.args in
    none-applied args.t.now args.h.now args.s c.requires.1 c.if-stepped-eq0.true c.if-stepped-eq0-2.true
    ∙ applied_all args.t.now args.h.now args.s

pub applied_over-low-requires : goal.applied_over-low-requires
applied_over-low-requires c =
    let start = c in
    let args = c.args in
    let stepped = folders_low (stepped_at args.h.now args.s) c.requires.1 in
    (c.requires.0, omega arith, stepped, applied_start args.t.now args.h.now args.s)

pub applied_over-requires : goal.applied_over-requires
applied_over-requires c =
    let start = c in
    let args = c.args in
    let stepped = folders_high (stepped_at args.h.now args.s) c.requires.1 in
    (c.requires.0, omega arith, stepped, c.applied_over-low.ensures)

pub returns : goal.returns
returns c =
    let args = c.args in
    c.applied_over.ensures ∙ applied_all args.t.now args.h.now args.s
