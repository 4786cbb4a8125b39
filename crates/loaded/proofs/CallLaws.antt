-- The checks that every call on tables, a history and levels starts with, and what a call returns once they pass or refuse. A check that
-- refuses gives its number whatever follows it, and checks that permit leave the number to those after them.
use Prim.Native.Nat.{ℕ, ◌+◌, ◌≤◌, ◌<◌}
use mathlib.Core.Path.{◌≡◌, sym, ap, ap₂, ◌∙◌}
use mathlib.Core.Logic.{◌≢◌, ⊎_elim}
use mathlib.Core.Bool.{true, false}
use mathlib.Core.List.{List, ◌++◌}
use native.Mathlib.Omega.{arith}
use lib.Dec.{eqb}
use lib.ListN.{length, drop}
use borrow.Author.Tests.{eqb-true, eq-eqb, ne_eqb, le-leb, lt-leb}
use Rattle.bits.proofs.Booleans.{decide}
use Rattle.bits.specs.Bits.{bit}
use Rattle.bits.specs.Bounded.{count_below}
use Rattle.policy.specs.declared.Tables.{Tables}
use Rattle.policy.specs.declared.Ran.{Ran}
use Rattle.policy.specs.Checks.{Check, ladder}
use Rattle.policy.specs.Tables.{person_declared}
use Rattle.policy.specs.Rulebook.{given}
use Rattle.policy.specs.History.{history_bytes, zeros}
use Rattle.policy.specs.Request.{set_of}
use Rattle.policy.specs.Levels.{levels_bytes, level_at, first_levels}
use Rattle.policy.specs.Calls.{
  State,
  state,
  call_checks,
  blank_number,
  blank_state,
  judge_with,
  judge_number,
  put_state,
  put_numbers,
  put_states,
  calls_of,
  answers_due,
  granted_in,
  refused_in,
  run_number,
  ran,
  run_state,
  run_answers,
  standing_number,
  standing,
}
use Rattle.policy.proofs.Refusals.{refusals}
use Rattle.policy.proofs.Runs.{counts_fit as room}
use Rattle.policy.proofs.Histories.{judge_with_lem}
use Rattle.policy.proofs.CallChecks.{taken, ready_then, refused_first}
use Rattle.request.specs.declared.Parsed.{Parsed}
use Rattle.request.specs.Parsed.{as_request, ParsedFrom}
use Rattle.questions.specs.Judging.{Ready, number_for}
use Rattle.past.specs.declared.Past.{Past}
use Rattle.past.specs.Past.{past_of}
use Rattle.past.proofs.PastLaws.{used_count, opened_count}
use Rattle.loaded.specs.Refused.{no_standing, no_run, RunIs}

-- ---- the checks on tables, history and levels

module _ (t : Tables) (a : State) where
  pub wrong_length : length a.history ≢ history_bytes → ladder (call_checks t a) ≡ 10
  unfolding call_checks ladder
  wrong_length n = rw (ne_eqb (length a.history) history_bytes n)

  pub wrong_levels : length a.history ≡ history_bytes → length a.levels ≢ levels_bytes → ladder (call_checks t a) ≡ 20
  unfolding call_checks ladder
  wrong_levels size n = rw (eq-eqb (length a.history) history_bytes size, ne_eqb (length a.levels) levels_bytes n)

  module _ (size : length a.history ≡ history_bytes) (held : length a.levels ≡ levels_bytes) where
    pub all_pass : given t ≡ true → ladder (call_checks t a) ≡ 0
    unfolding call_checks ladder
    all_pass g = rw (eq-eqb (length a.history) history_bytes size, eq-eqb (length a.levels) levels_bytes held, g)

  -- where they pass, the tables are given and both buffers have their lengths
  pub passed_ready : ladder (call_checks t a) ≡ 0 → Ready t a.history a.levels
  passed_ready e = let lent = taken t a e in record { tables = lent.tables; size = lent.size; held = lent.held }

  pub passed_then : (rest : List Check) → ladder (call_checks t a) ≡ 0 → ladder (call_checks t a ++ rest) ≡ ladder rest
  passed_then rest e = ready_then t a rest (taken t a e)

-- ---- blank

module _ (t : Tables) (h l : List ℕ) where
  pub blank_refused : {n : ℕ} → n ≡ ladder (call_checks t (state h l)) → n ≢ 0
      → (n ≡ blank_number t (state h l)) × (state h l ≡ blank_state t (state h l))
  unfolding blank_number
  blank_refused checked k = (checked, sym (refusals.blank t (state h l) (λ z. k (checked ∙ z))))

  pub blank_made : {h' l' : List ℕ} → ladder (call_checks t (state h l)) ≡ 0 → h' ≡ zeros (length h) → l' ≡ first_levels t l
      → (0 ≡ blank_number t (state h l)) × (state h' l' ≡ blank_state t (state h l))
  unfolding blank_number blank_state
  blank_made passed e f = (sym passed, rw passed (ap₂ state (e ∙ ap zeros (passed_ready t (state h l) passed).size) f))

-- ---- judge and put

module _ (t : Tables) (a : State) (bytes : List ℕ) where
  pub judge_refused : (n : ℕ) → n ≡ ladder (call_checks t a) → n ≢ 0 → n ≡ judge_number t a bytes
  unfolding judge_number
  judge_refused n e k = e ∙ sym (refused_first t a _ (λ z. k (e ∙ z)))

  judge_ready : Ready t a.history a.levels → judge_with t (set_of a.history) (level_at a.levels) bytes ≡ judge_number t a bytes
  judge_ready ready = sym (judge_with_lem t a bytes (record { size = ready.size; held = ready.held; tables = ready.tables }))

  pub judge_parsed : {r : Parsed} → Ready t a.history a.levels → ParsedFrom bytes r
      → number_for t (set_of a.history) (level_at a.levels) (as_request r) ≡ judge_number t a bytes
  unfolding number_for judge_with
  judge_parsed ready parsed = rw parsed.request (judge_ready ready)

  pub put_refused : (n : ℕ) → n ≡ ladder (call_checks t a) → n ≢ 0 → a ≡ put_state t a bytes
  put_refused n e k = sym (refusals.put t a bytes (λ z. k (judge_refused n e k ∙ z)))

-- ---- run

module _ (t : Tables) (a : State) (requests answers : List ℕ) where
  run_refused : (n : ℕ) → n ≡ ladder (call_checks t a) → n ≢ 0 → run_number t a requests answers ≡ n
  unfolding run_number
  run_refused n e k = refused_first t a _ (λ z. k (e ∙ z)) ∙ sym e

  run_few : ladder (call_checks t a) ≡ 0 → length answers < answers_due requests → run_number t a requests answers ≡ 18
  unfolding run_number ladder
  run_few z l = passed_then t a _ z ∙ rw (lt-leb (answers_due requests) (length answers) l)

  run_passed : ladder (call_checks t a) ≡ 0 → answers_due requests ≤ length answers → run_number t a requests answers ≡ 0
  unfolding run_number ladder
  run_passed z l = passed_then t a _ z ∙ rw (le-leb (answers_due requests) (length answers) l)

  -- a refused run: its number with counts zero, and every lent byte as it was
  refused_run : (n : ℕ) → run_number t a requests answers ≡ n → n ≢ 0 → RunIs t a requests answers (no_run n) a answers
  unfolding ran run_state run_answers no_run
  refused_run n e k =
      record {
        returned = rw (e, ne_eqb n 0 k);
        after = rw (e, ne_eqb n 0 k);
        answers = rw (e, ne_eqb n 0 k);
      }

  pub run_stopped : (n : ℕ) → n ≡ ladder (call_checks t a) → n ≢ 0 → RunIs t a requests answers (no_run n) a answers
  run_stopped n e k = refused_run n (run_refused n e k) k

  pub run_without_room : ladder (call_checks t a) ≡ 0 → length answers < answers_due requests
      → RunIs t a requests answers (no_run 18) a answers
  run_without_room z l = refused_run 18 (run_few z l) (omega arith)

  pub run_done : ladder (call_checks t a) ≡ 0 → answers_due requests ≤ length answers
      → (granted refused : ℕ) (after : State) (answered : List ℕ) → granted ≡ granted_in (put_numbers t a (calls_of requests))
      → refused ≡ refused_in (put_numbers t a (calls_of requests))
      → after ≡ put_states t a (calls_of requests)
      → answered ≡ put_numbers t a (calls_of requests) ++ drop (answers_due requests) answers
      → RunIs t a requests answers (record { number = 0; granted = granted; refused = refused }) after answered
  unfolding ran run_state run_answers
  run_done z l granted refused after answered g r left w =
      let e = run_passed z l in
      record { returned = rw (e, g, r); after = rw e left; answers = rw e w }

-- the counts of a run are together at most the answer bytes lent
pub counts_fit : {t : Tables} {a : State} {requests lent : List ℕ} {r : Ran} {left : State} {written : List ℕ}
    → RunIs t a requests lent r left written → r.granted + r.refused ≤ length lent
unfolding ran
counts_fit {t} {a} {requests} {lent} is =
    rw is.returned
    (⊎_elim
    (λ y.
    rw y (room t a requests lent (eqb-true (run_number t a requests lent) 0 y)))
    (λ n. rw n (omega arith))
    (decide (eqb (run_number t a requests lent) 0)))

-- ---- standing

module _ (t : Tables) (a : State) (s : ℕ) where
  refused_standing : (n : ℕ) → standing_number t a s ≡ n → n ≢ 0 → no_standing n ≡ standing t a s
  unfolding standing no_standing
  refused_standing n e k = rw (e, ne_eqb n 0 k)

  pub standing_refused : (n : ℕ) → n ≡ ladder (call_checks t a) → n ≢ 0 → no_standing n ≡ standing t a s
  unfolding standing_number
  standing_refused n e k = refused_standing n (refused_first t a _ (λ z. k (e ∙ z)) ∙ sym e) k

  pub standing_undeclared : ladder (call_checks t a) ≡ 0 → person_declared t s ≡ false → no_standing 13 ≡ standing t a s
  unfolding standing_number ladder
  standing_undeclared z d = refused_standing 13 (passed_then t a _ z ∙ rw d) (omega arith)

  -- the level, and the ones in the two sets of what the person did
  pub standing_is : ladder (call_checks t a) ≡ 0 → person_declared t s ≡ true
      → (past : Past) (level rights firms : ℕ) → past ≡ past_of t (set_of a.history) s → level ≡ level_at a.levels s
      → rights ≡ count_below 64 (bit past.rights) → firms ≡ count_below 64 (bit past.firms)
      → record { number = 0; level = record { 0 = level }; rights = rights; firms = firms } ≡ standing t a s
  unfolding standing standing_number ladder past_of
  standing_is z d past level rights firms e l p q =
      let zero : standing_number t a s ≡ 0 = passed_then t a _ z ∙ rw d in
      rw (l, p, q, e, zero)
      (rw (used_count t (set_of a.history) s, opened_count t (set_of a.history) s))
