-- Document 02, Point 7, of tally: over one tally record it is a run without answer bytes, refused exactly where blank is. Run after run
-- each count is the smaller of the largest and its sum with the calls of its firm and number, by induction on the runs: a run adds its own
-- calls, and leaves a tally, and a history and levels of the right lengths.
use Prim.Native.Nat.{ℕ, ◌+◌, ◌*◌, ◌/◌, ◌%◌, ◌≤◌, ◌<◌, ◌^◌, min}
use native.Mathlib.Omega.{arith}
use mathlib.Core.Path.{◌≡◌, refl, sym, ap, ◌∙◌}
use mathlib.Core.Logic.{⊎_elim, ◌↔◌, ◌≢◌}
use mathlib.Core.Bool.{Bool, true}
use mathlib.Core.List.Memᴰ
use mathlib.Core.List.{List, [], ◌∷◌, ◌++◌, Memᴰ}
use lib.Dec.{eqb, ltb}
use lib.ListN.{length, get_or, replicate, get_or-replicate, get_or-eq_default}
use borrow.Author.Tests.{eqb-true, eq-eqb, ne_eqb, le-leb, ltb-true, ltb-false}
use Rattle.bits.proofs.Booleans.{decide, by_test}
use Rattle.policy.specs.declared.Tables.{Tables}
use Rattle.policy.specs.declared.Ran.{Ran}
use Rattle.policy.specs.Checks.{◌else◌, ladder}
use Rattle.policy.specs.Calls.{State, call_checks, blank_number, put_states, answers_due, run_number, ran, run_state}
use Rattle.policy.specs.Given.{OfType}
use Rattle.policy.specs.Causes.{Answer, Turns}
use Rattle.policy.specs.Tallies.{tally_cells, largest_count, count_in, with_raised, tally_number, tallied, tally_state, tally_counts}
use Rattle.policy.specs.Tallying.{IsTally, sum_of, states_after, counts_after, Reads, Tallied, tally_causes, Tallying}
use Rattle.policy.proofs.Answers.{refuses_not, one_row, no_rows}
use Rattle.policy.proofs.Ladders.{ladder_member}
use Rattle.policy.proofs.CallChecks.{Ready, calls_as, checks_as, taken, ready_passes}
use Rattle.policy.proofs.CallCauses.{call_rows}
use Rattle.policy.proofs.Turned.{turns_once}
use Rattle.policy.proofs.Tallies.{raised_by_lem, raised_length, raised_at_lem, sum_from, sum_list}
use Rattle.policy.proofs.CountedUnder.{counted_under_lem, row_within, folder_firms}
use Rattle.policy.proofs.TalliedCalls.{
  calls_in,
  states_after_lem,
  counts_after_lem,
  puts_ready,
  meeting_places,
  counts_within,
  counts_together,
}

-- ---- the number

-- one check more, which permits
passed_last : (t : Tables) (a : State) (permits : Bool) (n : ℕ) → permits ≡ true
    → ladder (call_checks t a ++ (permits else n) ∷ []) ≡ blank_number t a
unfolding ladder blank_number
passed_last t a permits n e = rw e (calls_as t a _ ∙ sym (checks_as t a))

run_blank : (t : Tables) (a : State) (requests answers : List ℕ) → answers_due requests ≤ length answers
    → run_number t a requests answers ≡ blank_number t a
unfolding run_number
run_blank t a requests answers room = passed_last t a _ 18 (le-leb (answers_due requests) (length answers) room)

module _ (t : Tables) (a : State) (requests counts : List ℕ) where
  tallied_number : (tallied t a requests counts).number ≡ tally_number t a counts
  unfolding tallied
  tallied_number =
      by_test (λ (r : Ran). r.number ≡ tally_number t a counts) (eqb (tally_number t a counts) 0) _ _
      (λ e. sym (eqb-true (tally_number t a counts) 0 e)) (λ e. refl)

  number_published : Memᴰ (tallied t a requests counts).number (0 ∷ 10 ∷ 20 ∷ 11 ∷ 18 ∷ [])
  unfolding tally_number call_checks
  number_published = Memᴰ.cast tallied_number (ladder_member _)

  number_causes : (n : ℕ) → OfType t → ((tallied t a requests counts).number ≡ n) ↔ Answer (tally_causes t a counts) n
  unfolding tally_number
  number_causes n typed =
      rw tallied_number
      ((call_rows t typed a (one_row refl (refuses_not (eqb-true (length counts) tally_cells, eq-eqb _ tally_cells)) no_rows)).number n)

  -- refused, it leaves all as it was
  refused_left : (tallied t a requests counts).number ≢ 0
      → ((tallied t a requests counts).granted ≡ 0) × ((tallied t a requests counts).refused ≡ 0)
      × (tally_state t a requests counts ≡ a) × (tally_counts t a requests counts ≡ counts)
  unfolding tallied tally_state tally_counts
  refused_left n =
      let e = ne_eqb (tally_number t a counts) 0 (λ z. n (tallied_number ∙ z)) in
      (rw e, rw e, rw e, rw e)

  -- ---- over one tally record

  module _ (size : length counts ≡ tally_cells) where
    blank_number_lem : tally_number t a counts ≡ blank_number t a
    unfolding tally_number
    blank_number_lem = passed_last t a _ 18 (eq-eqb (length counts) tally_cells size)

    as_run_lem : (answers : List ℕ) → answers_due requests ≤ length answers
        → (tallied t a requests counts ≡ ran t a requests answers) × (tally_state t a requests counts ≡ run_state t a requests answers)
    unfolding tallied tally_state ran run_state
    as_run_lem answers room =
        let e = run_blank t a requests answers room in (rw (blank_number_lem, e), rw (blank_number_lem, e))

    module _ (ready : Ready t a) {calls : List (List ℕ)} (w : Turns requests calls) where
      taken_number : tally_number t a counts ≡ 0
      unfolding blank_number
      taken_number = blank_number_lem ∙ ready_passes t a ready

      run_state_lem : tally_state t a requests counts ≡ put_states t a calls
      unfolding tally_state
      run_state_lem = rw (taken_number, turns_once w)

      run_counts : tally_counts t a requests counts ≡ with_raised (calls_in t a calls) 0 counts
      unfolding tally_counts
      run_counts = rw (taken_number, turns_once w)

-- ---- one run after another

module _ (of : ℕ → ℕ → ℕ) (counts : List ℕ) (tally : IsTally counts) where
  more_at : (k : ℕ) → k < tally_cells
      → get_or (with_raised of 0 counts) k 0 ≡ min largest_count (get_or counts k 0 + of (k / 32) (k % 32))
  more_at k l =
      let fits = tally.fits k in
      raised_at_lem of counts 0 k k (rw tally.size l) (omega arith) ∙ raised_by_lem (get_or counts k 0) _ (omega arith)

  more_tally : IsTally (with_raised of 0 counts)
  more_tally =
      let size = raised_length of 0 counts ∙ tally.size in
      record {
        size = size;
        fits = λ k.
            ⊎_elim (λ e. let here = more_at k (ltb-true k tally_cells e) in omega arith)
            (λ e.
            let past = get_or-eq_default (with_raised of 0 counts) 0 {n = k} (rw size (ltb-false k tally_cells e)) in
            omega arith)
            (decide (ltb k tally_cells));
      }

-- what runs leave, count by count
record Left (t : Tables) (a : State) (runs calls : List (List ℕ)) (counts : List ℕ) : Type 0 where
  states : states_after t a runs counts ≡ put_states t a calls
  tally : IsTally (counts_after t a runs counts)
  each :
      (k : ℕ) → k < tally_cells
      → get_or (counts_after t a runs counts) k 0 ≡ min largest_count (get_or counts k 0 + calls_in t a calls (k / 32) (k % 32))

runs_left : (t : Tables) {runs calls : List (List ℕ)} → Reads runs calls → (a : State) (counts : List ℕ) → Ready t a → IsTally counts
    → Left t a runs calls counts
unfolding states_after counts_after put_states count_in
runs_left t Reads.no_run a counts ready tally =
    record { states = refl; tally = tally; each = λ k l. let fits = tally.fits k in omega arith }
runs_left t (Reads.run {requests = requests} {runs = runs} {calls = calls} {more = more} w later) a counts ready tally =
    let of = calls_in t a calls in
    let state = run_state_lem t a requests counts tally.size ready w in
    let raised = run_counts t a requests counts tally.size ready w in
    let rest =
    runs_left t later (put_states t a calls) (with_raised of 0 counts) (puts_ready t a calls ready) (more_tally of counts tally) in
    record {
      states = rw (state, raised) (rest.states ∙ states_after_lem t a calls more);
      tally = rw (state, raised) rest.tally;
      each = λ k l.
          let here = more_at of counts tally k l in
          let then = rest.each k l in
          let both = counts_after_lem t a calls more (k / 32) (k % 32) in
          rw (state, raised) (omega arith);
    }

-- ---- the counts

zero_at : (n : ℕ) (counts : List ℕ) → counts ≡ replicate n 0 → (k : ℕ) → k < n → get_or counts k 0 ≡ 0
zero_at n counts e k l = rw e (get_or-replicate n k 0 0 l)

module _ (t : Tables) (a : State) (runs calls : List (List ℕ)) (counts : List ℕ) (ready : Ready t a) (left : Left t a runs calls counts)
  where
    count_each : (f n : ℕ) → f ≤ 64 → n < 32
        → get_or (counts_after t a runs counts) (32 * f + n) 0 ≡ min largest_count (get_or counts (32 * f + n) 0 + calls_in t a calls f n)
    count_each f n row number =
        let same_row : (32 * f + n) / 32 ≡ f = omega arith in
        let same_number : (32 * f + n) % 32 ≡ n = omega arith in
        rw (same_row, same_number) at (left.each (32 * f + n) (omega arith))

    all_together : counts ≡ replicate 2080 0 → length calls < 2 ^ 64 → sum_of (counts_after t a runs counts) ≡ length calls
    all_together z few =
        sum_list of 0 (counts_after t a runs counts) (λ k l. each k (rw left.tally.size at l) ∙ ap of (omega arith))
        ∙ ap (sum_from of 0) left.tally.size ∙ counts_together t a calls ready
      where
        of : ℕ → ℕ
        of k = calls_in t a calls (k / 32) (k % 32)

        each : (k : ℕ) → k < tally_cells → get_or (counts_after t a runs counts) k 0 ≡ calls_in t a calls (k / 32) (k % 32)
        each k l =
            let before = zero_at 2080 counts z k l in
            let after = left.each k l in
            let within = counts_within t a calls (k / 32) (k % 32) in
            omega arith

    counted : Tallied t a runs calls counts
    counted =
        record {
          left = left.states;
          tally = left.tally;
          each = λ f n row number. (calls_in t a calls f n, meeting_places t a calls f n, count_each f n row number);
          together = all_together;
        }

ready_blank : (t : Tables) (a : State) → blank_number t a ≡ 0 → Ready t a
unfolding blank_number
ready_blank t a z = taken t a z

pub tallying : Tallying
tallying =
    record {
      numbers = number_published;
      causes = number_causes;
      beginning = λ t a requests counts tally. tallied_number t a requests counts ∙ blank_number_lem t a requests counts tally.size;
      refused = refused_left;
      as_run = λ t a requests counts answers tally. as_run_lem t a requests counts tally.size answers;
      firms = folder_firms;
      rows = λ t a bytes z. (_, row_within t (ready_blank t a z).tables bytes, (counted_under_lem t bytes _).0 refl);
      row = λ t bytes f g u v. sym ((counted_under_lem t bytes f).1 u) ∙ (counted_under_lem t bytes g).1 v;
      counts = λ t a runs calls counts z tally w.
          let ready = ready_blank t a z in counted t a runs calls counts ready (runs_left t w a counts ready tally);
    }
