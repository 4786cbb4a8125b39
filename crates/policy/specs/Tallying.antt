-- Document 02, Point 7, as claims about what tally returns and leaves, over whole lists of calls and over runs one after another. A request's
-- firm is told by the rulebook's records, and each count as the number of the places of a list at which a firm and an answer meet. What is
-- said here is written from the paper.
use Rattle.std.specs.Prelude.{ℕ, ◌+◌, ◌*◌, ◌≤◌, ◌<◌, ◌^◌, min, ◌≡◌, ◌⊎◌, ◌↔◌, ◌≢◌, length, get_or, replicate}
use mathlib.Core.List.{List, [], ◌∷◌, ◌++◌, Memᴰ}
use Rattle.policy.specs.declared.Tables.{Tables}
use Rattle.policy.specs.Tables.{folder_at}
use Rattle.policy.specs.Rulebook.{folder, load_book, records_of}
use Rattle.policy.specs.Request.{read, write, step}
use Rattle.policy.specs.Calls.{State, blank_number, put_numbers, put_states, answers_due, ran, run_state}
use Rattle.policy.specs.Given.{OfType}
use Rattle.policy.specs.Counting.{NumberOf}
use Rattle.policy.specs.Causes.{Cause, ◌when◌, Answer, IsFolder, AtFront, Turns, call_causes}
use Rattle.policy.specs.Tallies.{tallied, tally_state, tally_counts}

-- the record at the front of the bytes reads, writes or steps on folder o, whoever asks it and whatever the step is
abbrev pub OnFolder : List ℕ → ℕ → Type 0
OnFolder bytes o =
    (s p : ℕ) × (rest : List ℕ) × ((AtFront (read s o) bytes rest) ⊎ ((AtFront (write s o) bytes rest) ⊎ (AtFront (step s p o) bytes rest)))

-- the call is counted under firm f: that of its folder, if that is declared
abbrev pub OfFirm : Tables → List ℕ → ℕ → Type 0
OfFirm t bytes f = (o : ℕ) × OnFolder bytes o × IsFolder t o × ((folder_at t o).firm ≡ f)

-- the call is counted under no firm: a start, an undeclared folder, an unknown or cut record
abbrev pub OfNoFirm : Tables → List ℕ → Type 0
OfNoFirm t bytes = (o : ℕ) → OnFolder bytes o → IsFolder t o → ⊥

-- the call is counted under row f, 64 for no firm
abbrev pub CountedUnder : Tables → List ℕ → ℕ → Type 0
CountedUnder t bytes f = OfFirm t bytes f ⊎ (OfNoFirm t bytes × (f ≡ 64))

-- place k of a list of calls has a call of this firm with this answer, by the numbers of the definitions over the list
abbrev pub Meets : Tables → State → List (List ℕ) → ℕ → ℕ → ℕ → Type 0
Meets t a calls f n k = (k < length calls) × CountedUnder t (get_or calls k []) f × (get_or (put_numbers t a calls) k 0 ≡ n)

-- all counts together
unfoldable pub sum_of : List ℕ → ℕ
sum_of [] = 0
sum_of (n ∷ counts) = n + sum_of counts

-- 2,080 counts, none above the largest: what one tally record holds
pub record IsTally (counts : List ℕ) : Type 0 where
  pub size : length counts ≡ 2080
  pub fits : (k : ℕ) → get_or counts k 0 < 2 ^ 64

-- runs one after another over one tally: the state and the counts that the last leaves
unfoldable pub states_after : Tables → State → List (List ℕ) → List ℕ → State
states_after t a [] counts = a
states_after t a (requests ∷ runs) counts = states_after t (tally_state t a requests counts) runs (tally_counts t a requests counts)

unfoldable pub counts_after : Tables → State → List (List ℕ) → List ℕ → List ℕ
counts_after t a [] counts = counts
counts_after t a (requests ∷ runs) counts = counts_after t (tally_state t a requests counts) runs (tally_counts t a requests counts)

-- the requests read by runs one after another, as one list of calls
pub data Reads : List (List ℕ) → List (List ℕ) → Type 0 where
  no_run : Reads [] []
  run : {requests : List ℕ} {runs calls more : List (List ℕ)} → Turns requests calls → Reads runs more → Reads (requests ∷ runs) (calls ++ more)

-- the counts after runs that are not refused
pub record Tallied (t : Tables) (a : State) (runs calls : List (List ℕ)) (counts : List ℕ) : Type 0 where
  -- history and levels are those of the puts of all runs, in their order
  pub left : states_after t a runs counts ≡ put_states t a calls
  -- a tally stays one
  pub tally : IsTally (counts_after t a runs counts)
  -- each count is the smaller of 2 ^ 64 - 1 and the count before with the number of requests read of that firm with that answer
  pub each :
      (f n : ℕ) → f ≤ 64 → n < 32
      → (m : ℕ) × NumberOf (Meets t a calls f n) m
      × (get_or (counts_after t a runs counts) (32 * f + n) 0 ≡ min 18446744073709551615 (get_or counts (32 * f + n) 0 + m))
  -- from a zero tally all counts together are the number of requests read, fewer than 2 ^ 64
  pub together : counts ≡ replicate 2080 0 → length calls < 2 ^ 64 → sum_of (counts_after t a runs counts) ≡ length calls

-- the rows of tally: one tally record has 2,080 counts, and then 10, 20 and 11 are all
abbrev pub tally_causes : Tables → State → List ℕ → List Cause
tally_causes t a counts = call_causes t a ++ (18 when (length counts ≢ 2080)) ∷ []

pub record Tallying : Type 0 where
  -- every number of tally is a published one, that of its first cause
  pub numbers :
      (t : Tables) (a : State) (requests counts : List ℕ) → Memᴰ (tallied t a requests counts).number (0 ∷ 10 ∷ 20 ∷ 11 ∷ 18 ∷ [])
  pub causes :
      (t : Tables) (a : State) (requests counts : List ℕ) (n : ℕ) → OfType t
      → ((tallied t a requests counts).number ≡ n) ↔ Answer (tally_causes t a counts) n
  -- a tally record is refused with what blank is refused with, and with nothing else
  pub beginning : (t : Tables) (a : State) (requests counts : List ℕ) → IsTally counts → (tallied t a requests counts).number ≡ blank_number t a
  -- refused, it returns zero counts and leaves history, levels and tally as they were
  pub refused :
      (t : Tables) (a : State) (requests counts : List ℕ) → (tallied t a requests counts).number ≢ 0
      → ((tallied t a requests counts).granted ≡ 0) × ((tallied t a requests counts).refused ≡ 0)
      × (tally_state t a requests counts ≡ a) × (tally_counts t a requests counts ≡ counts)
  -- it returns and leaves what run does, given bytes for the answers
  pub as_run :
      (t : Tables) (a : State) (requests counts answers : List ℕ) → IsTally counts → answers_due requests ≤ length answers
      → (tallied t a requests counts ≡ ran t a requests answers) × (tally_state t a requests counts ≡ run_state t a requests answers)
  -- the firm of a folder is that of its record in the rulebook
  pub firms :
      (book : List ℕ) → (load_book book).number ≡ 0 → (o f : ℕ)
      → (IsFolder (load_book book).tables o × ((folder_at (load_book book).tables o).firm ≡ f))
      ↔ ((kind level : ℕ) × Memᴰ (folder o f kind level) (records_of book))
  -- every call is counted under one row of the 65
  pub rows : (t : Tables) (a : State) (bytes : List ℕ) → blank_number t a ≡ 0 → (f : ℕ) × (f ≤ 64) × CountedUnder t bytes f
  pub row : (t : Tables) (bytes : List ℕ) (f g : ℕ) → CountedUnder t bytes f → CountedUnder t bytes g → f ≡ g
  -- the counts, over runs one after another on any history and levels of the right lengths and any tally
  pub counts :
      (t : Tables) (a : State) (runs calls : List (List ℕ)) (counts : List ℕ) → blank_number t a ≡ 0 → IsTally counts → Reads runs calls
      → Tallied t a runs calls counts
