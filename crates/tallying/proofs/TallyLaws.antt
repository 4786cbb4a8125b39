-- What a tally returns and leaves where its checks refuse it, and where they pass: then the counts of the whole run are those with as many
-- more as the definition says.
use Prim.Native.Nat.{ℕ}
use native.Mathlib.Omega.{arith}
use mathlib.Core.Path.{◌≡◌, sym, ◌∙◌}
use mathlib.Core.Logic.{◌≢◌}
use mathlib.Core.List.{List}
use lib.ListN.{length}
use borrow.Author.Tests.{eq-eqb, ne_eqb}
use Rattle.policy.specs.declared.Tables.{Tables}
use Rattle.policy.specs.Checks.{ladder}
use Rattle.policy.specs.Calls.{State, call_checks, calls_of}
use Rattle.policy.specs.Tallies.{tally_number, tallied, tally_state, tally_counts}
use Rattle.policy.proofs.CallChecks.{taken, ready_then, refused_first}
use Rattle.loaded.specs.Refused.{no_run}
use Rattle.counts.proofs.CountLaws.{counted_all}
use Rattle.tallying.specs.Counted.{CountedAll}
use Rattle.tallying.specs.TallyIs.{TallyIs}

module _ (t : Tables) (a : State) (requests counts : List ℕ) where
  -- a refused tally: its number with counts zero, and all that was lent as it was
  refused_tally : (n : ℕ) → tally_number t a counts ≡ n → n ≢ 0 → TallyIs t a requests counts (no_run n) a counts
  unfolding tallied tally_state tally_counts no_run
  refused_tally n e k =
      record { returned = rw (e, ne_eqb n 0 k); state = rw (e, ne_eqb n 0 k); counts = rw (e, ne_eqb n 0 k) }

  pub tally_stopped : (n : ℕ) → n ≡ ladder (call_checks t a) → n ≢ 0 → TallyIs t a requests counts (no_run n) a counts
  unfolding tally_number
  tally_stopped n e k = refused_tally n (refused_first t a _ (λ z. k (e ∙ z)) ∙ sym e) k

  module _ (passed : ladder (call_checks t a) ≡ 0) where
    pub tally_misfit : length counts ≢ 2080 → TallyIs t a requests counts (no_run 18) a counts
    unfolding tally_number ladder
    tally_misfit k = refused_tally 18 (ready_then t a _ (taken t a passed) ∙ rw (ne_eqb (length counts) 2080 k)) (omega arith)

    tally_passed : length counts ≡ 2080 → tally_number t a counts ≡ 0
    unfolding tally_number ladder
    tally_passed long = ready_then t a _ (taken t a passed) ∙ rw (eq-eqb (length counts) 2080 long)

    pub tally_done : length counts ≡ 2080 → {granted refused : ℕ} {after : State} {left : List ℕ}
        → CountedAll t a requests counts granted refused after left
        → TallyIs t a requests counts (record { number = 0; granted = granted; refused = refused }) after left
    unfolding tallied tally_state tally_counts
    tally_done long ran =
        let e = tally_passed long in
        let all = counted_all t (taken t a passed).tables a (calls_of requests) counts long in
        record {
          returned = rw (e, ran.granted, ran.refused);
          state = rw e ran.states;
          counts = rw e (ran.counted ∙ all);
        }
