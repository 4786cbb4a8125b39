-- Requests counted by answers that are written already, turn by turn: the first request of the rest has the first answer of the rest.
use Prim.Native.Nat.{ℕ, suc, ◌+◌, ◌≤◌, ◌<◌}
use native.Mathlib.Omega.{arith}
use mathlib.Core.Path.{◌≡◌, sym, ◌∙◌}
use mathlib.Core.List.{List}
use lib.ListN.{length, get_or, drop, drop_of_length-le}
use lib.Seq.{drop-cons}
use Rattle.policy.specs.declared.Tables.{Tables}
use Rattle.policy.specs.Calls.{calls_of}
use Rattle.policy.specs.Tallies.{counted_under}
use Rattle.request.specs.declared.Parsed.{Parsed}
use Rattle.request.specs.Parsed.{as_request, ParsedFrom}
use Rattle.putting.proofs.Records.{calls_at, none_left, next_at_within}
use Rattle.counts.specs.Counting.{with_one, with_requests}

-- the counts so far, on which the rest of the requests and of the answers gives what all of them give on those before
pub record Answered (t : Tables) (requests answers counts₀ counts : List ℕ) (at i : ℕ) : Type 0 where
  pub rest : with_requests t (calls_of requests) answers counts₀ ≡ with_requests t (calls_of (drop at requests)) (drop i answers) counts
  pub within : at ≤ length requests
  pub same : length counts ≡ length counts₀

module _ {t : Tables} {requests answers counts₀ counts : List ℕ} {at i : ℕ} (so_far : Answered t requests answers counts₀ counts at i) where
  module _ (below : at < length requests) where
    module _ {r : Parsed} (parsed : ParsedFrom (drop at requests) r) where
      pub answered_within : at + r.next ≤ length requests
      answered_within = rw parsed.onward (next_at_within requests at below)

      pub answered_more : i < length answers → {f n : ℕ} {later : List ℕ} → f ≡ counted_under t (as_request r) → n ≡ get_or answers i 0
          → later ≡ with_one counts f n → length later ≡ length counts
          → Answered t requests answers counts₀ later (at + r.next) (i + 1)
      unfolding with_requests
      answered_more more {f} {n} {later} under number is same =
          let up : suc i ≡ i + 1 = omega arith in
          record {
            rest = so_far.rest
                ∙ rw (calls_at requests at below, drop-cons answers i 0 more, is, under, number, parsed.request, parsed.onward, up);
            within = answered_within;
            same = same ∙ so_far.same;
          }

    -- no answer is left
    pub answered_out : length answers ≤ i → counts ≡ with_requests t (calls_of requests) answers counts₀
    unfolding with_requests
    answered_out none = sym (so_far.rest ∙ rw (calls_at requests at below, drop_of_length-le answers {i = i} none))

  -- no request is left
  pub answered_all : length requests ≤ at → counts ≡ with_requests t (calls_of requests) answers counts₀
  unfolding with_requests
  answered_all end = sym (so_far.rest ∙ rw (none_left requests at end))
