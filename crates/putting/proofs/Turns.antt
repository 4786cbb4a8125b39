-- A run, turn by turn. What a whole run gives splits into what is written so far and what the rest of the requests gives on the history and
-- the levels so far; a put moves its number from the second part to the first, and at the end nothing is left of the second.
use Prim.Native.Nat.{ℕ, ◌+◌, ◌-◌, ◌≤◌, ◌<◌}
use native.Mathlib.Numerals.{add-one}
use native.Mathlib.Omega.{arith}
use mathlib.Core.Path.{◌≡◌, refl, sym, ap, ◌∙◌}
use mathlib.Core.Logic.{⊎_elim}
use mathlib.Core.Bool.{Bool, true, false, cond}
use mathlib.Core.List.{List, [], ◌∷◌, ◌++◌, append-nil, append_assoc}
use mathlib.Core.Option.{Option, none, some}
use lib.Dec.{eqb}
use lib.ListN.{length, set, drop, length-append}
use lib.Seq.{drop-cons, set-append_seam}
use Rattle.bits.proofs.Booleans.{decide}
use Rattle.policy.specs.declared.Tables.{Tables}
use Rattle.policy.specs.Request.{Request, request_of, set_of}
use Rattle.policy.specs.Levels.{level_at}
use Rattle.policy.specs.Calls.{State, judge_with, judge_number, recorded_if, put_state, put_numbers, put_states, calls_of, answers_due, granted_in}
use Rattle.policy.proofs.Places.{size_recorded}
use Rattle.policy.proofs.LevelBytes.{size_lowered}
use Rattle.policy.proofs.Runs.{numbers_length, counted_once}
use Rattle.policy.proofs.Histories.{judge_with_lem}
use Rattle.request.specs.declared.Parsed.{Parsed}
use Rattle.request.specs.Parsed.{as_request, next_record, ParsedFrom}
use Rattle.questions.specs.Judging.{Ready, number_for}
use Rattle.putting.specs.Running.{run_numbers, Turned, Finished, Done, Room}
use Rattle.putting.proofs.Records.{calls_at, none_left, none_due, next_at_within, next_at_further, due_at}

-- ---- one put

-- a put keeps both lengths
recorded_ready : (t : Tables) (b : Bool) (a : State) (r : Option Request) → Ready t a.history a.levels
    → Ready t (recorded_if t b a r).history (recorded_if t b a r).levels
unfolding recorded_if
recorded_ready t false a r ready = ready
recorded_ready t true a none ready = ready
recorded_ready t true a (some r) ready =
    record {
      tables = ready.tables;
      size = size_recorded a.history r ∙ ready.size;
      held = size_lowered t a.levels r ∙ ready.held;
    }

pub ready_put : (t : Tables) (a : State) (bytes : List ℕ) → Ready t a.history a.levels
    → Ready t (put_state t a bytes).history (put_state t a bytes).levels
unfolding put_state
ready_put t a bytes ready = recorded_ready t _ a (request_of bytes) ready

-- a turn by what is kept, and one alone, is a put of the bytes
pub as_turned : {t : Tables} {a after : State} {bytes : List ℕ} {r : Parsed} {n : ℕ} → Ready t a.history a.levels → ParsedFrom bytes r
    → n ≡ number_for t (set_of a.history) (level_at a.levels) (as_request r) → after ≡ recorded_if t (eqb n 0) a (as_request r)
    → Turned t a bytes n r.next after
unfolding put_state number_for judge_with
as_turned {t} {a} {after} {bytes} {r} {n} ready parsed number left =
    let whole : n ≡ judge_number t a bytes =
    number ∙ rw parsed.request
    (sym (judge_with_lem t a bytes (record { size = ready.size; held = ready.held; tables = ready.tables }))) in
    record { judged_as = whole; onward = parsed.onward; left = left ∙ rw (whole, parsed.request) }

-- ---- the counts

pub granted_one : (n g : ℕ) → g ≡ cond (eqb n 0) 1 0 → g ≤ 1
granted_one n g e = rw e (⊎_elim (λ t. rw t (omega arith)) (λ f. rw f (omega arith)) (decide (eqb n 0)))

granted_more : (l : List ℕ) (n : ℕ) → granted_in (l ++ n ∷ []) ≡ granted_in l + cond (eqb n 0) 1 0
unfolding granted_in
granted_more [] n = omega arith
granted_more (m ∷ l) n = omega (arith, granted_more l n)

-- ---- the answers written

written_more : (l answers : List ℕ) (i n : ℕ) → length l ≡ i → i < length answers
    → set (l ++ drop i answers) i n ≡ (l ++ n ∷ []) ++ drop (i + 1) answers
written_more l answers i n e below =
    rw (add-one, drop-cons answers i 0 below, append_assoc, ← e) (set-append_seam l _ _ n)

-- ---- a run so far

pub done_none : {t : Tables} {a₀ : State} {requests answers₀ : List ℕ} → Ready t a₀.history a₀.levels
    → Done t a₀ requests answers₀ 0 0 0 a₀ answers₀
unfolding granted_in
done_none ready =
    record { written = []; states = refl; numbers = refl; many = refl; zeros = refl; bytes = refl; ready = ready }

module _ {t : Tables} {a₀ : State} {requests answers₀ : List ℕ} {at i granted : ℕ} {a : State} {answers : List ℕ}
    (done : Done t a₀ requests answers₀ at i granted a answers) where
  -- no more are granted than put
  pub done_granted : granted ≤ i
  done_granted = omega (arith, done.zeros, done.many, counted_once done.written)

  -- the answers due are those written and those of the rest
  pub done_due : answers_due requests ≡ i + answers_due (drop at requests)
  unfolding answers_due
  done_due =
      sym (numbers_length t a₀ (calls_of requests)) ∙ ap length done.numbers ∙ length-append done.written _
      ∙ rw (done.many, numbers_length t a (calls_of (drop at requests)))

  -- one put more
  pub done_more : {n next g : ℕ} {after : State} → at < length requests → i < length answers₀
      → Turned t a (drop at requests) n next after → g ≡ cond (eqb n 0) 1 0
      → Done t a₀ requests answers₀ (at + next) (i + 1) (granted + g) after (set answers i n)
  unfolding put_states put_numbers
  done_more {n} below room turn one =
      let calls = calls_at requests at below in
      rw (turn.left, turn.onward, one)
      (record {
        written = done.written ++ n ∷ [];
        states = done.states ∙ rw calls;
        numbers = done.numbers ∙ rw (calls, append_assoc, turn.judged_as);
        many = length-append done.written (n ∷ []) ∙ rw done.many;
        zeros = rw (granted_more done.written n, done.zeros);
        bytes = rw done.bytes (written_more done.written answers₀ i n done.many room);
        ready = ready_put t a (drop at requests) done.ready;
      })

  -- there is room for the answers to the rest
  pub done_room : {n : ℕ} → at ≤ length requests → i ≤ at → answers_due requests ≤ n → Room requests n at i granted
  done_room within further due =
      record { within = within; further = further; grants = done_granted; enough = omega (arith, done_due, due) }

  -- no put more
  pub done_all : length requests ≤ at → Finished t a₀ requests answers₀ granted (i - granted) a answers
  unfolding put_states put_numbers
  done_all end =
      let none = none_left requests at end in
      let all : run_numbers t a₀ requests ≡ done.written = done.numbers ∙ rw none (append-nil done.written) in
      let both = counted_once done.written in
      let due : answers_due requests ≡ i = omega (arith, done_due, none_due requests at end) in
      record {
        granted = rw all done.zeros;
        refused = rw all (omega (arith, done.many, done.zeros));
        left = sym (done.states ∙ rw none);
        answers = rw (all, due) done.bytes;
      }

-- one put more leaves room for the rest
pub room_more : {requests : List ℕ} {n at i granted next g : ℕ} → Room requests n at i granted → at < length requests
    → next ≡ next_record (drop at requests) → g ≤ 1 → Room requests n (at + next) (i + 1) (granted + g)
room_more {requests} {n} {at} {i} {granted} {next} {g} room below onward one =
    rw onward
    (record {
      within = next_at_within requests at below;
      further = omega (arith, room.further, next_at_further requests at below);
      grants = omega (arith, room.grants, one);
      enough = omega (arith, room.enough, due_at requests at below);
    })
