-- The marked cases P1 to P10 of document 01, and cases of document 02, Points 2, 4 and 5: what is asked, and what is answered.
use Rattle.std.specs.Prelude.{ℕ, ◌≡◌, Bool, List, [], ◌∷◌, ◌++◌}
use Rattle.level.specs.Levels.{meet_of}
use Rattle.policy.specs.declared.Tables.{Tables}
use Rattle.policy.specs.declared.Job.{Job}
use Rattle.policy.specs.Checks.{◌else◌, ladder}
use Rattle.policy.specs.Rulebook.{load_book}
use Rattle.policy.specs.Request.{Request, read, write, start, step, member}
use Rattle.policy.specs.Levels.{level_at, lowered}
use Rattle.policy.specs.Rules.{wall, level_outcome, current_level}
use Rattle.policy.specs.Calls.{rest_of, calls_of, outcome_number, judge_list, granted_in, refused_in}
use Rattle.policy.specs.Plans.{jobs_of, records, jobs_at}

-- the printed book: the role's rights in bytes of their own, since P10 has others
abbrev pub book_with : List ℕ → List ℕ
book_with rights =
    1 ∷ 15
    ∷ 2 ∷ 0 ∷ 0
    ∷ 2 ∷ 1 ∷ 0
    ∷ 2 ∷ 2 ∷ 1
    ∷ 3 ∷ 0 ∷ 3 ∷ 32
    ∷ 3 ∷ 1 ∷ 1 ∷ 16
    ∷ 4 ∷ 0 ∷ 0 ∷ 0 ∷ 3 ∷ 32
    ∷ 4 ∷ 1 ∷ 1 ∷ 0 ∷ 3 ∷ 32
    ∷ 4 ∷ 2 ∷ 2 ∷ 1 ∷ 1 ∷ 16
    ∷ 5 ∷ 0 ∷ (rights ++ 6 ∷ 0 ∷ 1 ∷ 6 ∷ 1 ∷ 2 ∷ 0 ∷ [])

abbrev pub printed_book : List ℕ
printed_book = book_with (3 ∷ 0 ∷ 3 ∷ 0 ∷ 1 ∷ 0 ∷ 7 ∷ 0 ∷ [])

abbrev pub printed_requests : List ℕ
printed_requests =
    17 ∷ 0 ∷ 0
    ∷ 16 ∷ 0 ∷ 1
    ∷ 16 ∷ 0 ∷ 2
    ∷ 17 ∷ 0 ∷ 0
    ∷ 18 ∷ 0 ∷ 1
    ∷ 19 ∷ 1 ∷ 1 ∷ 2
    ∷ 19 ∷ 1 ∷ 0 ∷ 2
    ∷ 19 ∷ 1 ∷ 1 ∷ 2
    ∷ 19 ∷ 1 ∷ 1 ∷ 2
    ∷ 16 ∷ 5 ∷ 0
    ∷ []

-- P8: person 0 at 0x1000, person 1 first at 0x1003, folders 0 and 1 at 0x1001 and 0x1002
abbrev pub low_water_book : List ℕ
low_water_book =
    1 ∷ 2
    ∷ 2 ∷ 0 ∷ 0
    ∷ 3 ∷ 0 ∷ 0 ∷ 16
    ∷ 3 ∷ 1 ∷ 3 ∷ 16
    ∷ 4 ∷ 0 ∷ 0 ∷ 0 ∷ 1 ∷ 16
    ∷ 4 ∷ 1 ∷ 0 ∷ 0 ∷ 2 ∷ 16
    ∷ 0
    ∷ []

-- Point 2: low-water alone; person 0 at 0x2003, folder 0 at 0x2003, folder 1 at 0x1001, folder 2 at 0x1004. Step 5 on folder 1 lowers the
-- person to 0x1001: folder 0 has a higher rank, folder 2 another compartment, and step 0 on folder 1 is granted
abbrev pub steps_book : List ℕ
steps_book =
    1 ∷ 2
    ∷ 2 ∷ 0 ∷ 0
    ∷ 3 ∷ 0 ∷ 3 ∷ 32
    ∷ 4 ∷ 0 ∷ 0 ∷ 0 ∷ 3 ∷ 32
    ∷ 4 ∷ 1 ∷ 0 ∷ 0 ∷ 1 ∷ 16
    ∷ 4 ∷ 2 ∷ 0 ∷ 0 ∷ 4 ∷ 16
    ∷ 0
    ∷ []

abbrev pub steps_requests : List ℕ
steps_requests = 19 ∷ 0 ∷ 5 ∷ 1 ∷ 17 ∷ 0 ∷ 0 ∷ 19 ∷ 0 ∷ 3 ∷ 2 ∷ 19 ∷ 0 ∷ 0 ∷ 1 ∷ []

-- Point 5: low-water alone; person 0 at 0x2001, person 1 at 0x1003, folders 0, 1 and 2 at 0x1003, 0x3003 and 0x3001. For folder 0, and to
-- start person 1, person 0 lacks a compartment; for folder 1 the rank and a compartment; for folder 2 the rank; to start person 0, person 1
-- lacks the rank
abbrev pub clearances_book : List ℕ
clearances_book =
    1 ∷ 2
    ∷ 2 ∷ 0 ∷ 0
    ∷ 3 ∷ 0 ∷ 1 ∷ 32
    ∷ 3 ∷ 1 ∷ 3 ∷ 16
    ∷ 4 ∷ 0 ∷ 0 ∷ 0 ∷ 3 ∷ 16
    ∷ 4 ∷ 1 ∷ 0 ∷ 0 ∷ 3 ∷ 48
    ∷ 4 ∷ 2 ∷ 0 ∷ 0 ∷ 1 ∷ 48
    ∷ 0
    ∷ []

abbrev pub clearances_requests : List ℕ
clearances_requests = 17 ∷ 0 ∷ 0 ∷ 17 ∷ 0 ∷ 1 ∷ 17 ∷ 0 ∷ 2 ∷ 18 ∷ 0 ∷ 1 ∷ 18 ∷ 1 ∷ 0 ∷ []

-- Point 6: low-water and the pipeline; person 0 at 0x2003, folder 0 at 0x2003, folder 1 at 0x1001, and step 0 enables 1, which enables 2.
-- Of the jobs, steps 2, 1 and 0 on folder 1 and a write in folder 0, the last must come first and the steps in turn
abbrev pub jobs_book : List ℕ
jobs_book =
    1 ∷ 10
    ∷ 2 ∷ 0 ∷ 0
    ∷ 3 ∷ 0 ∷ 3 ∷ 32
    ∷ 4 ∷ 0 ∷ 0 ∷ 0 ∷ 3 ∷ 32
    ∷ 4 ∷ 1 ∷ 0 ∷ 0 ∷ 1 ∷ 16
    ∷ 6 ∷ 0 ∷ 1
    ∷ 6 ∷ 1 ∷ 2
    ∷ 0
    ∷ []

abbrev pub marked_jobs : List Job
marked_jobs = jobs_of (19 ∷ 0 ∷ 1 ∷ 2 ∷ 19 ∷ 0 ∷ 1 ∷ 1 ∷ 19 ∷ 0 ∷ 1 ∷ 0 ∷ 17 ∷ 0 ∷ 0 ∷ 7 ∷ [])

-- the answers to the jobs at these places, put in this order from the empty set
abbrev pub put_jobs : List ℕ → List ℕ
put_jobs order = judge_list (load_book jobs_book).tables [] (records (jobs_at marked_jobs order))

-- the answers of a book and the requests after it, from the empty set
abbrev pub played : List ℕ → List ℕ
played bytes = judge_list (load_book bytes).tables [] (calls_of (rest_of bytes))

abbrev pub loading : List ℕ → List ℕ
loading book = (load_book book).number ∷ (load_book book).offset ∷ []

-- one rule alone, in force: 0 where it grants, else its number
unfoldable pub wall_answer : Tables → (Request → Bool) → Request → ℕ
wall_answer t H r = ladder ((wall t H r else 14) ∷ [])

unfoldable pub low_water_answer : Tables → (Request → Bool) → Request → ℕ
low_water_answer t H r = outcome_number (level_outcome t (current_level t H) r)

-- the same with the levels in a buffer
unfoldable pub held_answer : Tables → List ℕ → Request → ℕ
held_answer t levels r = outcome_number (level_outcome t (level_at levels) r)

-- the answers, then how many grant and how many refuse
unfoldable pub with_totals : List ℕ → List ℕ
with_totals answers = answers ++ granted_in answers ∷ refused_in answers ∷ []

-- the table: what the definitions give in each case, and what is answered
pub record MarkedCases : Type 0 where
  pub P1 :
      with_totals (played (printed_book ++ printed_requests))
      ≡ 0 ∷ 14 ∷ 0 ∷ 15 ∷ 0 ∷ 17 ∷ 0 ∷ 0 ∷ 17 ∷ 13 ∷ 5 ∷ 5 ∷ []
  pub P2 : loading [] ≡ 1 ∷ 0 ∷ []
  pub P3 : loading (0 ∷ []) ≡ 3 ∷ 0 ∷ []
  pub P4 : loading (1 ∷ 15 ∷ 6 ∷ 3 ∷ 4 ∷ 0 ∷ []) ≡ 9 ∷ 5 ∷ []
  pub P5 : loading (1 ∷ 15 ∷ 6 ∷ 0 ∷ 0 ∷ 0 ∷ []) ≡ 7 ∷ 2 ∷ []
  pub P6-loads : loading (1 ∷ 15 ∷ 0 ∷ []) ≡ 0 ∷ 2 ∷ []
  pub P6-refused : loading (1 ∷ 16 ∷ 0 ∷ []) ≡ 4 ∷ 0 ∷ []
  pub P7 : meet_of 12 0x1001 0x1002 ≡ 0x1000
  pub P8 : low_water_answer (load_book low_water_book).tables (member (read 1 0 ∷ read 1 1 ∷ [])) (start 0 1) ≡ 0
  pub P9-one : wall_answer (load_book printed_book).tables (member (read 0 0 ∷ read 0 1 ∷ [])) (read 0 0) ≡ 0
  pub P9-other : wall_answer (load_book printed_book).tables (member (read 0 0 ∷ read 0 1 ∷ [])) (read 0 1) ≡ 0
  pub P10 : played (book_with (3 ∷ 0 ∷ 3 ∷ 0 ∷ 1 ∷ 0 ∷ 3 ∷ 0 ∷ []) ++ 19 ∷ 1 ∷ 2 ∷ 2 ∷ []) ≡ 16 ∷ []
  pub steps : played (steps_book ++ steps_requests) ≡ 0 ∷ 15 ∷ 21 ∷ 0 ∷ []
  -- Point 4, with the book of Point 2 and an entry for person 0: a step on folder 1, and then a read of folder 2, lowers 0x2003 to 0x1001
  -- and to 0x1000; a write does not; and a write in folder 0 is judged by the entry, whatever was done
  pub held_step : lowered (load_book steps_book).tables (3 ∷ 32 ∷ []) (step 0 5 1) ≡ 1 ∷ 16 ∷ []
  pub held_read : lowered (load_book steps_book).tables (1 ∷ 16 ∷ []) (read 0 2) ≡ 0 ∷ 16 ∷ []
  pub held_write : lowered (load_book steps_book).tables (3 ∷ 32 ∷ []) (write 0 1) ≡ 3 ∷ 32 ∷ []
  pub held_high : held_answer (load_book steps_book).tables (3 ∷ 32 ∷ []) (write 0 0) ≡ 0
  pub held_low : held_answer (load_book steps_book).tables (1 ∷ 16 ∷ []) (write 0 0) ≡ 15
  pub clearances : played (clearances_book ++ clearances_requests) ≡ 21 ∷ 15 ∷ 15 ∷ 21 ∷ 15 ∷ []
  pub jobs_as_listed : put_jobs (0 ∷ 1 ∷ 2 ∷ 3 ∷ []) ≡ 17 ∷ 17 ∷ 0 ∷ 15 ∷ []
  pub jobs_in_order : put_jobs (3 ∷ 2 ∷ 1 ∷ 0 ∷ []) ≡ 0 ∷ 0 ∷ 0 ∷ 0 ∷ []
