-- Sorting by the rows of the rules on pairs orders the jobs: a row says which jobs one may not come before, since what was looked up about
-- jobs that can be planned says what `may_precede` says.
use Prim.Native.Nat.{ℕ, ◌%◌, ◌<◌}
use native.Mathlib.Nat.{mod-eq_of_lt}
use mathlib.Core.Path.{◌≡◌, refl, sym, ap, ap₂, ◌∙◌}
use mathlib.Core.Logic.{⊎_elim}
use mathlib.Core.Bool.{Bool, true, false, not, ◌&&◌, and_assoc}
use mathlib.Core.List.Memᴰ
use mathlib.Core.List.{List, [], ◌∷◌, Memᴰ}
use lib.Dec.{eqb}
use lib.ListN.{length}
use borrow.Author.Tests.{not-false, not-true}
use Rattle.std.specs.Prelude.{Option, Some, None}
use Rattle.bits.specs.Bits.{bit}
use Rattle.bits.specs.Bounded.{◌implies◌}
use Rattle.bits.proofs.Masks.{bit_mask_below}
use Rattle.policy.specs.declared.Tables.{Tables}
use Rattle.policy.specs.declared.Job.{Job}
use Rattle.policy.specs.Tables.{enabled_by, enables, in_force, low_water_rule, pipeline_rule}
use Rattle.policy.specs.Plans.{jobs_of, jobs_at, all_plannable}
use Rattle.policy.proofs.JobOrders.{permuted_below}
use Rattle.precedence.specs.Precedence.{lowers_level, is_step, job_level, levels_permit, steps_permit, may_precede, Ordered}
use Rattle.sorting.specs.Sorting.{blocked, InOrder, Sorts}
use Rattle.listed.specs.declared.pairs.Side.{Side}
use Rattle.listed.specs.Pairs.{side_by, side_of, levels_pass, steps_pass, precedes, job_at, SidesOf, RowsOf}
use Rattle.planning.specs.Planning.{OrderOf}
use Rattle.planning.proofs.PlannableLaws.{planned, folder_below, step_below_lem, planned_at}

-- ---- a pair of jobs

module _ (t : Tables) (x y : Job) (can-x : planned t x ≡ true) (can-y : planned t y ≡ true) where
  levels_same : levels_pass (side_of t x) (side_of t y) ≡ levels_permit t x y
  unfolding levels_pass side_of side_by levels_permit in_force job_level
  levels_same =
      rw (
        mod-eq_of_lt (folder_below t x can-x),
        mod-eq_of_lt (folder_below t y can-y),
        and_assoc (bit t.mask low_water_rule) (lowers_level x.action) _,
      )

  steps_same : steps_pass (side_of t x) (side_of t y) ≡ steps_permit t x y
  unfolding steps_pass side_of side_by steps_permit in_force is_step enables
  steps_same = go (bit t.mask pipeline_rule) (eqb x.action 19) (eqb y.action 19) refl refl
    where
      go : (on first second : Bool) → eqb x.action 19 ≡ first → eqb y.action 19 ≡ second
          → (((on && first) && ((on && second) && eqb x.target y.target))
          implies not (bit (enabled_by t (y.step % 16)) (x.step % 16)))
          ≡ ((on && (first && (second && eqb x.target y.target))) implies not (bit (enabled_by t y.step) x.step))
      go false first second e f = refl
      go true false second e f = refl
      go true true false e f = refl
      go true true true e f = rw (mod-eq_of_lt (step_below_lem t x can-x e), mod-eq_of_lt (step_below_lem t y can-y f))

  pair_same : precedes (side_of t x) (side_of t y) ≡ may_precede t x y
  unfolding precedes may_precede
  pair_same = ap₂ ◌&&◌ levels_same steps_same

-- ---- the rows

module _ (t : Tables) (bytes : List ℕ) (n : ℕ) (size : length (jobs_of bytes) ≡ n) (can : all_plannable t (jobs_of bytes) ≡ true)
    {sides : List Side} {rows : List ℕ} (looked : SidesOf t bytes n sides) (kept : RowsOf sides n rows) where
  row_says : (i j : ℕ) → i < n → j < n → blocked rows i j ≡ not (may_precede t (job_at bytes i) (job_at bytes j))
  row_says i j l m =
      ap (λ (row : ℕ). bit row j) (kept.each i l)
      ∙ bit_mask_below n _ j m
      ∙ ap not
      (ap₂ precedes (looked.each i l) (looked.each j m)
      ∙ pair_same t (job_at bytes i) (job_at bytes j) (planned_at t (jobs_of bytes) can i (rw size l))
      (planned_at t (jobs_of bytes) can j (rw size m)))

  in_jobs : (order : List ℕ) (y : Job) → Memᴰ y (jobs_at (jobs_of bytes) order) → (j : ℕ) × Memᴰ j order × (y ≡ job_at bytes j)
  unfolding jobs_at
  in_jobs [] y m = absurd (Memᴰ.not-nil m)
  in_jobs (j ∷ order) y m =
      ⊎_elim (λ e. (j, Memᴰ.head refl, e)) (λ k. let (i, h, e) = in_jobs order y k in (i, Memᴰ.tail h, e))
      (Memᴰ.cases_cons m)

  ordered : (order : List ℕ) → ((i : ℕ) → Memᴰ i order → i < n) → InOrder rows order → Ordered t (jobs_at (jobs_of bytes) order)
  unfolding jobs_at InOrder Ordered
  ordered [] below s = tt
  ordered (i ∷ order) below s = (
    λ y m.
        let (j, h, e) = in_jobs order y m in
        let free = sym (row_says i j (below i (Memᴰ.head refl)) (below j (Memᴰ.tail h))) ∙ s.0 j h in
        rw e (not-false _ free),
    ordered order (λ k m. below k (Memᴰ.tail m)) s.1,
  )

  -- what sorting by the rows answers is an order of the jobs, or jobs that keep each other back
  pub sorted_jobs : (order : Option (List ℕ)) → Sorts rows n order → OrderOf t (jobs_of bytes) order
  sorted_jobs (Some positions) found =
      record {
        order = found.order;
        each = rw size found.each;
        stands = rw size found.stands;
        ordered = ordered found.order (permuted_below n found.order found.each) found.sorted;
      }
  sorted_jobs None left =
      record {
        pending = bit left.pending;
        place = left.place;
        waits = left.waits;
        inside = λ i h. rw size (left.inside i h);
        kept = λ i h.
            let (j, waits, b) = left.kept i h in
            (j, waits, not-true _ (sym (row_says i j (left.inside i h) (left.inside j waits)) ∙ b));
      }
