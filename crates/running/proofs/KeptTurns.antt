-- A run that keeps, turn by turn: a put by what is kept is one put more of the run, and what is kept after it is what the set and the
-- levels after it give.
use Prim.Native.Nat.{ℕ, ◌+◌, ◌%◌, ◌≤◌, ◌<◌}
use native.Mathlib.Omega.{arith}
use mathlib.Core.Path.{◌≡◌, refl, sym, ap, ◌∙◌}
use mathlib.Core.Bool.{true, cond}
use mathlib.Core.List.{List}
use mathlib.Core.Option.{some}
use lib.Dec.{eqb}
use lib.ListN.{length, set, drop, length-set}
use Rattle.policy.specs.declared.Folder.{Folder}
use Rattle.policy.specs.declared.Tables.{Tables}
use Rattle.policy.specs.Tables.{folder_at, class_of}
use Rattle.policy.specs.Rulebook.{given}
use Rattle.policy.specs.Request.{set_of}
use Rattle.policy.specs.Levels.{level_at}
use Rattle.policy.specs.Calls.{State, state, recorded_if, answers_due}
use Rattle.request.specs.declared.Parsed.{Parsed}
use Rattle.request.specs.Parsed.{as_request, ParsedFrom}
use Rattle.questions.specs.Judging.{Ready, number_for}
use Rattle.rules.specs.Sets.{firms_of}
use Rattle.branchfree.specs.Kinds.{asked_by}
use Rattle.keeping.specs.declared.Fixed.{Fixed}
use Rattle.keeping.specs.declared.Kept.{Kept as Keeping}
use Rattle.keeping.specs.Keeping.{Keeps, FixedBy, Serves, PutKept}
use Rattle.branchfree.proofs.KindLaws.{asked_is}
use Rattle.putting.specs.Running.{Turned, Begun}
use Rattle.running.specs.Kept.{Kept}
use Rattle.putting.proofs.Records.{next_at_within, next_at_further, due_at}
use Rattle.putting.proofs.Turns.{as_turned, done_none, done_due, done_more}

unfoldable pub kept_none : {t : Tables} {h l requests answers : List ℕ} {k : Keeping} → Ready t h l → Keeps t (set_of h) l k
    → Kept t (state h l) requests answers 0 0 0 h answers k
kept_none {t} {h} {l} ready keeps =
    record {
      levels = l;
      begun = record { done = done_none ready; within = omega arith; further = omega arith; same = refl };
      keeps = keeps;
    }

-- the numbers at hand, as the loop has them
pub serves_by : {t : Tables} {f : Fixed} {e : Folder} {class : ℕ} (o : ℕ) → given t ≡ true → FixedBy t f
    → e ≡ folder_at t (o % 128) → class ≡ firms_of t (class_of t (o % 128)) → Serves t f.mask f.holders f.steps e class o
serves_by o ok has entry firms =
    record { tables = ok; rules = has.rules; rights = has.rights; enabling = has.enabling; entry = entry; firms = firms }

module _ {t : Tables} {a₀ : State} {requests answers₀ : List ℕ} {at i granted : ℕ} {h answers : List ℕ} {k : Keeping}
    (so_far : Kept t a₀ requests answers₀ at i granted h answers k) (below : at < length requests)
    (due : answers_due requests ≤ length answers₀) where
  -- there is room for one answer more
  pub kept_room : i < length answers
  kept_room = omega (arith, due, so_far.begun.same, done_due so_far.begun.done, due_at requests at below)

  module _ {r : Parsed} (parsed : ParsedFrom (drop at requests) r) where
    pub kept_onward : at + r.next ≤ length requests
    kept_onward = omega (arith, parsed.onward, next_at_within requests at below)

    pub kept_further : 0 < r.next
    kept_further = omega (arith, parsed.onward, next_at_further requests at below)

    module _ {n : ℕ} {h' : List ℕ} {k' : Keeping} (low : 15 < r.kind) (high : r.kind < 20)
        (put : PutKept t (state h so_far.levels) (asked_by r.kind r.person r.target r.step) n h' k') where
      abbrev before : State
      before = state h so_far.levels

      -- the levels after it
      abbrev pub levels_after : List ℕ
      levels_after = (recorded_if t (eqb n 0) before (some (asked_by r.kind r.person r.target r.step))).levels

      -- it is a put of the bytes
      pub kept_turned : Turned t before (drop at requests) n r.next (state h' levels_after)
      unfolding number_for as_request
      kept_turned =
          let q = asked_by r.kind r.person r.target r.step in
          let is : as_request r ≡ some q = asked_is r.kind r.person r.target r.step low high in
          let left : state h' levels_after ≡ recorded_if t (eqb n 0) before (as_request r) =
          ap (λ (x : List ℕ). state x levels_after) put.left ∙ ap (recorded_if t (eqb n 0) before) (sym is) in
          let number : n ≡ number_for t (set_of h) (level_at so_far.levels) (as_request r) =
          put.judged_as ∙ ap (number_for t (set_of h) (level_at so_far.levels)) (sym is) in
          as_turned so_far.begun.done.ready parsed number left

      unfoldable pub kept_more : {g : ℕ} → g ≡ cond (eqb n 0) 1 0
          → Kept t a₀ requests answers₀ (at + r.next) (i + 1) (granted + g) h' (set answers i n) k'
      kept_more one =
          record {
            levels = levels_after;
            begun =
                record {
                  done = done_more so_far.begun.done below (omega (arith, kept_room, so_far.begun.same)) kept_turned one;
                  within = kept_onward;
                  further = omega (arith, so_far.begun.further, kept_further);
                  same = length-set answers i n ∙ so_far.begun.same;
                };
            keeps = put.keeps;
          }

-- the levels kept, once they are stored
pub kept_stored : {t : Tables} {a₀ : State} {requests answers₀ : List ℕ} {at i granted : ℕ} {h answers : List ℕ} {k : Keeping}
    (so_far : Kept t a₀ requests answers₀ at i granted h answers k) {l : List ℕ} → l ≡ so_far.levels
    → Begun t a₀ requests answers₀ at i granted (state h l) answers
kept_stored so_far e = rw e so_far.begun
