-- `run_by` comes to where the whole records end: at each turn, what is taken and what the rest of the requests gives on the history and
-- the levels so far are what the whole run gives, what is kept is what they give, and before the end a whole record stands; from the end
-- on none does.
use Prim.Native.Nat.{ℕ, ◌%◌}
use native.Mathlib.Omega.{arith}
use mathlib.Core.Path.{refl, ap, ◌∙◌}
use borrow.Author.Rules.{part_to_end}
use Rattle.policy.specs.Tables.{folder_at}
use Rattle.running.proofs.ClassOf.{class_is}
use Rattle.putting.proofs.Turns.{granted_one, done_granted}
use Rattle.putting.proofs.WholeRecords.{starts, whole_before, below_end, due_from_end, goes_parsed}
use Rattle.running.proofs.KeptTurns.{serves_by, kept_onward, kept_further}
use Rattle.running.proofs.TakenTurns.{taken_none, taken_may, taken_more}
use Rattle.running.proofs.kept.run_by.Goals as goal

pub loop-at-init : goal.loop-at-init
loop-at-init g c =
    (taken_none g.met.W.Taking.laws (record { tables = c.args.t.now.given; size = c.told-h; held = c.told-l }) c.requires.3 c.requires.0, starts c.args.requests.now)

pub slice_bounds-parse_whole-count : goal.slice_bounds-parse_whole-count
slice_bounds-parse_whole-count g c =
    omega (arith, below_end c.loop-at.invariant.1 c.requires.1 (omega arith))

pub slice_bounds-parse_whole-start : goal.slice_bounds-parse_whole-start
slice_bounds-parse_whole-start g c =
    omega (arith, below_end c.loop-at.invariant.1 c.requires.1 (omega arith))

pub parse_whole-parsed-requires : goal.parse_whole-parsed-requires
parse_whole-parsed-requires g c =
    rw part_to_end (whole_before c.loop-at.invariant.1 c.requires.1 (omega arith))

pub overflow_add-at : goal.overflow_add-at
overflow_add-at g c =
    let looped = c.loop-at in
    let below = below_end looped.invariant.1 c.requires.1 (omega arith) in
    let parsed = rw part_to_end at c.parse_whole-parsed.ensures.0 in
    omega (arith, kept_onward looped.invariant.0.kept below (g.met.W.Taking.laws.room _ _ c.requires.0) parsed)

pub take-requires : goal.take-requires
take-requires g c =
    let looped = c.loop-at in
    let below = below_end looped.invariant.1 c.requires.1 (omega arith) in
    let known = c.parse_whole-parsed.ensures in
    let parsed = rw part_to_end at known.0 in
    let t = c.args.t.now.tables in
    let r = c.parse_whole-parsed.result in
    let target = c.from.ensures in
    let entry = ap (λ (o : ℕ). folder_at t (o % 128)) target in
    let firm = c.from-in-loop-at.ensures ∙ ap (λ (o : ℕ). (folder_at t (o % 128)).firm) target in
    let serves =
    serves_by r.target c.args.t.now.given c.requires.2 entry
    (class_is t r.target c.args.fixed.now.classes c.args.t.now.given c.requires.2.firms firm c.from-in-loop-at-2.ensures refl) in
    let put = c.put-number.ensures t looped.invariant.0.kept.levels serves looped.invariant.0.kept.keeps in
    taken_may g.met.W.Taking.laws looped.invariant.0 below c.requires.0 parsed entry known.1 known.2 put

pub overflow_add-answered : goal.overflow_add-answered
overflow_add-answered g c =
    let looped = c.loop-at in
    let below = below_end looped.invariant.1 c.requires.1 (omega arith) in
    omega (arith, below, looped.invariant.0.kept.begun.further)

pub overflow_add-granted : goal.overflow_add-granted
overflow_add-granted g c =
    let looped = c.loop-at in
    let below = below_end looped.invariant.1 c.requires.1 (omega arith) in
    let one = granted_one c.put-number.result _ c.granted_by-granted.ensures in
    let few = done_granted looped.invariant.0.kept.begun.done in
    omega (arith, below, looped.invariant.0.kept.begun.further, few, one)

pub loop-at-smaller : goal.loop-at-smaller
loop-at-smaller g c =
    let looped = c.loop-at in
    let below = below_end looped.invariant.1 c.requires.1 (omega arith) in
    let parsed = rw part_to_end at c.parse_whole-parsed.ensures.0 in
    let before = c.loop-at-test.true in
    omega (arith, before, kept_further looped.invariant.0.kept below (g.met.W.Taking.laws.room _ _ c.requires.0) parsed)

pub loop-at-preserved : goal.loop-at-preserved
loop-at-preserved g c =
    let looped = c.loop-at in
    let below = below_end looped.invariant.1 c.requires.1 (omega arith) in
    let known = c.parse_whole-parsed.ensures in
    let parsed = rw part_to_end at known.0 in
    let whole = whole_before looped.invariant.1 c.requires.1 (omega arith) in
    let t = c.args.t.now.tables in
    let r = c.parse_whole-parsed.result in
    let target = c.from.ensures in
    let entry = ap (λ (o : ℕ). folder_at t (o % 128)) target in
    let firm = c.from-in-loop-at.ensures ∙ ap (λ (o : ℕ). (folder_at t (o % 128)).firm) target in
    let serves =
    serves_by r.target c.args.t.now.given c.requires.2 entry
    (class_is t r.target c.args.fixed.now.classes c.args.t.now.given c.requires.2.firms firm c.from-in-loop-at-2.ensures refl) in
    let put = c.put-number.ensures t looped.invariant.0.kept.levels serves looped.invariant.0.kept.keeps in (
      taken_more g.met.W.Taking.laws looped.invariant.0 below c.requires.0 parsed entry known.1 known.2 put c.take.ensures
          c.granted_by-granted.ensures,
      goes_parsed looped.invariant.1 whole parsed,
    )

pub returns : goal.returns
returns g c =
    (c.loop-at.invariant.0, due_from_end c.loop-at.invariant.1 c.requires.1 (omega arith))
