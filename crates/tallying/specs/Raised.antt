-- A run that raises a count by each number: what all requests give on the counts before is what the rest gives on the counts so far; a put
-- raises the count of its request, which is what the definition does with the first request of the rest.
use Prim.Native.Nat.{ℕ, ◌+◌, ◌%◌, ◌≤◌, ◌<◌}
use native.Mathlib.Omega.{arith}
use mathlib.Core.Path.{◌≡◌, refl, ap, ◌∙◌}
use mathlib.Core.Bool.{true}
use mathlib.Core.List.{List}
use lib.ListN.{length, drop, length-replicate}
use Rattle.policy.specs.declared.Folder.{Folder}
use Rattle.policy.specs.declared.Tables.{Tables}
use Rattle.policy.specs.Tables.{folder_at}
use Rattle.policy.specs.History.{zeros}
use Rattle.policy.specs.Rulebook.{given}
use Rattle.policy.specs.Request.{request_of}
use Rattle.policy.specs.Calls.{State, put_numbers, answers_due}
use Rattle.policy.specs.Tallies.{counted_under}
use Rattle.policy.proofs.CountedUnder.{row_within}
use Rattle.policy.proofs.TalliedCalls.{judge_small}
use Rattle.request.specs.declared.Parsed.{Parsed}
use Rattle.request.specs.Parsed.{as_request}
use Rattle.putting.specs.Running.{Turned}
use Rattle.putting.proofs.Records.{calls_at}
use Rattle.running.specs.Taking.{TakingLaws}
use Rattle.counts.specs.Counting.{raised_at, with_one, with_requests}
use Rattle.counts.proofs.CountLaws.{one_raised, raised_length}
use Rattle.tallying.specs.Counted.{counts_of, room, SoFar}

-- the counts lent are as many as a tally has; no answer is written, so a run so far is told as one that has just the bytes needed
abbrev pub raised_lent : List ℕ → List ℕ → Type 0
raised_lent requests counts = length counts ≡ 2080

abbrev pub raised_room : List ℕ → List ℕ → List ℕ
raised_room requests counts = room requests

abbrev pub raised_told : Tables → State → List ℕ → List ℕ → ℕ → State → List ℕ → List ℕ → Type 0
raised_told t a₀ requests counts₀ at a written counts = SoFar t a₀ requests counts₀ at a counts

-- the count of a request is one of them: so is its firm, whatever the tables that have the folder's entry, and so is its number
pub record MayRaise (counts : List ℕ) (i : ℕ) (e : Folder) (r : Parsed) (n : ℕ) : Type 0 where
  pub size : length counts ≡ 2080
  pub firm : (f : ℕ) → ((t : Tables) → e ≡ folder_at t (r.target % 128) → f ≡ counted_under t (as_request r)) → f ≤ 64
  pub number : n < 32

abbrev pub raises : List ℕ → ℕ → Folder → Parsed → ℕ → List ℕ → Type 0
raises counts i e r n later =
    (t : Tables) → e ≡ folder_at t (r.target % 128) → later ≡ raised_at counts (counted_under t (as_request r)) n

-- there is room for the answers
pub enough : (requests : List ℕ) → answers_due requests ≤ length (room requests)
unfolding zeros
enough requests = omega (arith, length-replicate {A = ℕ} (answers_due requests) 0)

-- ---- one request more

module _ {t : Tables} {a₀ : State} {requests counts₀ : List ℕ} {at : ℕ} {a : State} {counts : List ℕ}
    (so_far : SoFar t a₀ requests counts₀ at a counts) (below : at < length requests) where
  pub one_more : {n next : ℕ} {after : State} → Turned t a (drop at requests) n next after
      → counts_of t a₀ requests counts₀
      ≡ counts_of t after (drop (at + next) requests) (with_one counts (counted_under t (request_of (drop at requests))) n)
  unfolding with_requests put_numbers
  one_more turn = so_far.rest ∙ rw (calls_at requests at below, turn.judged_as, turn.left, turn.onward)

  pub counted_more : {n next f : ℕ} {after : State} → given t ≡ true → Turned t a (drop at requests) n next after
      → f ≡ counted_under t (request_of (drop at requests)) → SoFar t a₀ requests counts₀ (at + next) after (raised_at counts f n)
  counted_more {n} {next} {f} {after} ok turn is =
      let firm = row_within t ok (drop at requests) in
      let number : n < 32 = rw turn.judged_as (judge_small t a (drop at requests)) in
      record {
        rest =
            one_more turn
            ∙ ap (counts_of t after (drop (at + next) requests)) (rw is (one_raised counts _ n firm number));
        size = raised_length counts f n ∙ so_far.size;
      }

pub counted_none : {t : Tables} {a : State} {requests counts : List ℕ} → length counts ≡ 2080 → SoFar t a requests counts 0 a counts
counted_none long = record { rest = refl; size = long }

pub raised_laws : TakingLaws raised_room raised_told raised_lent MayRaise raises
raised_laws =
    record {
      room = λ requests counts long. enough requests;
      none = λ t a requests counts long. counted_none long;
      may = λ t a₀ a after requests counts₀ at i written counts r e n ok so_far below room parsed entry turned.
          record {
            size = so_far.size;
            firm = λ f is. rw (is t entry, parsed.request) (row_within t ok (drop at requests));
            number = rw turned.judged_as (judge_small t a (drop at requests));
          };
      more = λ t a₀ a after requests counts₀ at i written counts later r e n ok so_far below parsed entry turned made.
          rw (made t entry) (counted_more so_far below ok turned (ap (counted_under t) parsed.request));
    }
