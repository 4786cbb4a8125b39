-- The calls (document 01, "Requests and calls", and document 02, Points 4 and 5): everything that each returns, and every lent byte
-- afterwards.
use Rattle.std.specs.Prelude.{ℕ, zero, suc, ◌+◌, Bool, true, false, cond, List, [], ◌∷◌, ◌++◌, eqb, leb, length, drop}
use Rattle.std.proofs.Math.Option.{Option, none, some}
use Rattle.bits.specs.Bounded.{count_below, ◌implies◌}
use Rattle.level.specs.declared.Comparison.{Comparison}
use Rattle.level.specs.declared.Comparison.TheVariants.{AtMost, RankTooLow, CompartmentMissing}
use Rattle.policy.specs.declared.Tables.{Tables}
use Rattle.policy.specs.declared.Ran.{Ran}
use Rattle.policy.specs.declared.Standing.{Standing}
use Rattle.policy.specs.Checks.{Check, ◌else◌, ladder}
use Rattle.policy.specs.Tables.{person_declared, in_force, wall_rule, low_water_rule, roles_rule, pipeline_rule}
use Rattle.policy.specs.Rulebook.{load_book, given}
use Rattle.policy.specs.History.{history_bytes, zeros}
use Rattle.policy.specs.Request.{Request, request_of, record_length, set_of, recorded, member}
use Rattle.policy.specs.Levels.{levels_bytes, level_at, first_levels, lowered}
use Rattle.policy.specs.Rules.{declared, wall, level_outcome, low_water, current_level, roles, pipeline, used, opened}

-- what is lent to a call and passed on to the next one, as one state: the history, and each person's level held ready
pub record State : Type 0 where
  pub history : List ℕ
  pub levels : List ℕ

abbrev pub state : List ℕ → List ℕ → State
state h l = record { history = h; levels = l }

-- the checks of every call that takes tables and a state
unfoldable pub call_checks : Tables → State → List Check
call_checks t a =
    (eqb (length a.history) history_bytes else 10)
    ∷ (eqb (length a.levels) levels_bytes else 20)
    ∷ (given t else 11)
    ∷ []

-- blank: its number, and the state afterwards
unfoldable pub blank_number : Tables → State → ℕ
blank_number t a = ladder (call_checks t a)

unfoldable pub blank_state : Tables → State → State
blank_state t a = cond (eqb (blank_number t a) 0) (state (zeros history_bytes) (first_levels t a.levels)) a

-- load is `load_book`; beside it, rest: the bytes after the end record, none for a refused book
unfoldable pub rest_of : List ℕ → List ℕ
rest_of book = cond (eqb (load_book book).number 0) (drop ((load_book book).offset + 1) book) []

-- the number of low-water for each outcome of its comparison: no refusal, which is 0, or the rank's number, or the compartment's
unfoldable pub outcome_number : Comparison → ℕ
outcome_number AtMost = 0
outcome_number RankTooLow = 15
outcome_number CompartmentMissing = 21

-- the checks of the request at the front of the bytes, over the set of requests granted so far and a level for each person
unfoldable pub request_checks : Tables → (Request → Bool) → (ℕ → ℕ) → Option Request → List Check
request_checks t H levels none = (false else 12) ∷ []
request_checks t H levels (some r) =
    (declared t r else 13)
    ∷ ((in_force t wall_rule implies wall t H r) else 14)
    ∷ ((in_force t low_water_rule implies low_water t levels r) else outcome_number (level_outcome t levels r))
    ∷ ((in_force t roles_rule implies roles t H r) else 16)
    ∷ ((in_force t pipeline_rule implies pipeline t H r) else 17)
    ∷ []

-- judging over a set of requests and a level for each person
unfoldable pub judge_with : Tables → (Request → Bool) → (ℕ → ℕ) → List ℕ → ℕ
judge_with t H levels bytes = ladder (request_checks t H levels (request_of bytes))

-- judging over a set of requests alone: the levels are those that the set gives
unfoldable pub judge_over : Tables → (Request → Bool) → List ℕ → ℕ
judge_over t H bytes = judge_with t H (current_level t H) bytes

-- the granted requests, with this one where it is granted
unfoldable pub added_if : Bool → Option Request → List Request → List Request
added_if false r granted = granted
added_if true none granted = granted
added_if true (some r) granted = r ∷ granted

-- the numbers of one request after another, each over the set of those granted so far
unfoldable pub judge_list : Tables → List Request → List (List ℕ) → List ℕ
judge_list t granted [] = []
judge_list t granted (bytes ∷ calls) =
    let number = judge_over t (member granted) bytes in
    number ∷ judge_list t (added_if (eqb number 0) (request_of bytes) granted) calls

-- judge: the number; nothing is recorded
unfoldable pub judge_number : Tables → State → List ℕ → ℕ
judge_number t a bytes = ladder (call_checks t a ++ request_checks t (set_of a.history) (level_at a.levels) (request_of bytes))

-- put: the number that judge gives, and where the request is granted the history with it and its person's level lowered
unfoldable pub recorded_if : Tables → Bool → State → Option Request → State
recorded_if t false a r = a
recorded_if t true a none = a
recorded_if t true a (some r) = state (recorded a.history r) (lowered t a.levels r)

unfoldable pub put_state : Tables → State → List ℕ → State
put_state t a bytes = recorded_if t (eqb (judge_number t a bytes) 0) a (request_of bytes)

-- put after put: the numbers, and the state afterwards
unfoldable pub put_numbers : Tables → State → List (List ℕ) → List ℕ
put_numbers t a [] = []
put_numbers t a (bytes ∷ calls) = judge_number t a bytes ∷ put_numbers t (put_state t a bytes) calls

unfoldable pub put_states : Tables → State → List (List ℕ) → State
put_states t a [] = a
put_states t a (bytes ∷ calls) = put_states t (put_state t a bytes) calls

-- the bytes after the record at their front; none where it is unknown or cut
unfoldable pub after_record : Option Request → List ℕ → List ℕ
after_record none bytes = []
after_record (some r) bytes = drop (record_length r) bytes

-- the puts of a run: each takes the bytes from its record on, up to the end or the first record that is unknown or cut
unfoldable pub calls_from : ℕ → List ℕ → List (List ℕ)
calls_from zero bytes = []
calls_from (suc n) [] = []
calls_from (suc n) (kind ∷ body) =
    let bytes = kind ∷ body in
    bytes ∷ calls_from n (after_record (request_of bytes) bytes)

unfoldable pub calls_of : List ℕ → List (List ℕ)
calls_of requests = calls_from (length requests) requests

-- answers due: one for each record, and one for the unknown or cut record that ends a run
unfoldable pub answers_due : List ℕ → ℕ
answers_due requests = length (calls_of requests)

-- how many answers are 0, and how many are not
unfoldable pub granted_in : List ℕ → ℕ
granted_in [] = 0
granted_in (n ∷ numbers) = cond (eqb n 0) 1 0 + granted_in numbers

unfoldable pub refused_in : List ℕ → ℕ
refused_in [] = 0
refused_in (n ∷ numbers) = cond (eqb n 0) 0 1 + refused_in numbers

-- run: its own number and the counts, the state afterwards, and the answer bytes afterwards
unfoldable pub run_number : Tables → State → List ℕ → List ℕ → ℕ
run_number t a requests answers = ladder (call_checks t a ++ (leb (answers_due requests) (length answers) else 18) ∷ [])

unfoldable pub ran : Tables → State → List ℕ → List ℕ → Ran
ran t a requests answers =
    let numbers = put_numbers t a (calls_of requests) in
    cond (eqb (run_number t a requests answers) 0)
    (record { number = 0; granted = granted_in numbers; refused = refused_in numbers })
    (record { number = run_number t a requests answers; granted = 0; refused = 0 })

unfoldable pub run_state : Tables → State → List ℕ → List ℕ → State
run_state t a requests answers =
    cond (eqb (run_number t a requests answers) 0) (put_states t a (calls_of requests)) a

unfoldable pub run_answers : Tables → State → List ℕ → List ℕ → List ℕ
run_answers t a requests answers =
    cond (eqb (run_number t a requests answers) 0)
    (put_numbers t a (calls_of requests) ++ drop (answers_due requests) answers)
    answers

-- standing: a person's stored level, rights used and firms opened; zero with a refusal
unfoldable pub standing_number : Tables → State → ℕ → ℕ
standing_number t a s = ladder (call_checks t a ++ (person_declared t s else 13) ∷ [])

unfoldable pub standing : Tables → State → ℕ → Standing
standing t a s =
    cond (eqb (standing_number t a s) 0)
    (record {
      number = 0;
      level = record { 0 = level_at a.levels s };
      rights = count_below 64 (used t (set_of a.history) s);
      firms = count_below 64 (opened t (set_of a.history) s);
    })
    (record { number = standing_number t a s; level = record { 0 = 0 }; rights = 0; firms = 0 })
