-- The counts of a list of calls: the places at which a row and a number meet, and over all rows and numbers the calls themselves, because
-- each call has one row of the 65 and one number below 32. Puts keep the lengths of history and levels, so a next run is not refused.
use Prim.Native.Nat.{ℕ, ◌+◌, ◌/◌, ◌%◌, ◌≤◌, ◌<◌}
use native.Mathlib.Omega.{arith}
use mathlib.Core.Path.{◌≡◌, refl, sym, ap, ap₂, ◌∙◌}
use mathlib.Core.Logic.{⊎_elim}
use mathlib.Core.Bool.{Bool, true, false, cond, ◌&&◌}
use mathlib.Core.List.Memᴰ
use mathlib.Core.List.{List, [], ◌∷◌, ◌++◌, Memᴰ}
use mathlib.Core.Option.{Option, none, some}
use lib.Dec.{eqb, ltb}
use lib.ListN.{length, get_or}
use borrow.Author.Tests.{eqb-true, eq-eqb, ltb-true}
use Rattle.bits.specs.Bounded.{count_below}
use Rattle.bits.proofs.Booleans.{and_left, and_right, and_both}
use Rattle.bits.proofs.Bounds.{count_low}
use Rattle.policy.specs.declared.Tables.{Tables}
use Rattle.policy.specs.Request.{Request, request_of}
use Rattle.policy.specs.Calls.{State, recorded_if, judge_number, put_state, put_numbers, put_states}
use Rattle.policy.specs.Counting.{NumberOf}
use Rattle.policy.specs.Tallies.{tally_cells, counted_under, count_in}
use Rattle.policy.specs.Tallying.{Meets}
use Rattle.policy.proofs.Places.{size_recorded}
use Rattle.policy.proofs.LevelBytes.{size_lowered}
use Rattle.policy.proofs.Counts.{count_number}
use Rattle.policy.proofs.CallChecks.{Ready}
use Rattle.policy.proofs.PublishedNumbers.{numbers}
use Rattle.policy.proofs.Tallies.{sum_from, sum_both, sum_none, sum_place}
use Rattle.policy.proofs.CountedUnder.{counted_under_lem, row_within}

-- ---- numbers below 32

-- every number of the list is
abbrev all_small : List ℕ → Bool
all_small [] = true
all_small (m ∷ l) = ltb m 32 && all_small l

member_small : (l : List ℕ) (n : ℕ) → all_small l ≡ true → Memᴰ n l → n < 32
member_small [] n e i = absurd (Memᴰ.not-nil i)
member_small (m ∷ l) n e i =
    ⊎_elim (λ q. let small = ltb-true m 32 (and_left (ltb m 32) _ e) in rw q small)
    (λ j. member_small l n (and_right (ltb m 32) _ e) j) (Memᴰ.cases_cons i)

pub judge_small : (t : Tables) (a : State) (bytes : List ℕ) → judge_number t a bytes < 32
judge_small t a bytes = member_small _ _ refl (numbers.judge t a bytes)

-- ---- lists of calls one after another

-- how many of the calls, put from a state, are of a row with a number
abbrev pub calls_in : Tables → State → List (List ℕ) → ℕ → ℕ → ℕ
calls_in t a calls = count_in t calls (put_numbers t a calls)

module _ (t : Tables) where
  pub states_after_lem : (a : State) (calls more : List (List ℕ)) → put_states t (put_states t a calls) more ≡ put_states t a (calls ++ more)
  unfolding put_states
  states_after_lem a [] more = refl
  states_after_lem a (bytes ∷ calls) more = states_after_lem (put_state t a bytes) calls more

  pub counts_after_lem : (a : State) (calls more : List (List ℕ)) (f n : ℕ)
      → calls_in t a (calls ++ more) f n ≡ calls_in t a calls f n + calls_in t (put_states t a calls) more f n
  unfolding count_in put_numbers put_states
  counts_after_lem a [] more f n = omega arith
  counts_after_lem a (bytes ∷ calls) more f n = let rest = counts_after_lem (put_state t a bytes) calls more f n in omega arith

  -- ---- a put keeps both lengths

  recorded_ready : (passed : Bool) (a : State) (r : Option Request) → Ready t a → Ready t (recorded_if t passed a r)
  unfolding recorded_if
  recorded_ready false a r ready = ready
  recorded_ready true a none ready = ready
  recorded_ready true a (some r) ready =
      record {
        size = size_recorded a.history r ∙ ready.size;
        held = size_lowered t a.levels r ∙ ready.held;
        tables = ready.tables;
      }

  put_ready : (a : State) (bytes : List ℕ) → Ready t a → Ready t (put_state t a bytes)
  unfolding put_state
  put_ready a bytes ready = recorded_ready _ a (request_of bytes) ready

  pub puts_ready : (a : State) (calls : List (List ℕ)) → Ready t a → Ready t (put_states t a calls)
  unfolding put_states
  puts_ready a [] ready = ready
  puts_ready a (bytes ∷ calls) ready = puts_ready (put_state t a bytes) calls (put_ready a bytes ready)

  -- ---- the places of a row and a number

  abbrev meets_at : State → List (List ℕ) → ℕ → ℕ → ℕ → Bool
  meets_at a calls f n k = eqb (counted_under t (request_of (get_or calls k []))) f && eqb (get_or (put_numbers t a calls) k 0) n

  count_places : (a : State) (calls : List (List ℕ)) (f n : ℕ) → calls_in t a calls f n ≡ count_below (length calls) (meets_at a calls f n)
  unfolding count_in put_numbers count_below
  count_places a [] f n = refl
  count_places a (bytes ∷ calls) f n =
      ap (λ (m : ℕ). cond (eqb (counted_under t (request_of bytes)) f && eqb (judge_number t a bytes) n) 1 0 + m)
      (count_places (put_state t a bytes) calls f n)
      ∙ sym (count_low (length calls) (meets_at a (bytes ∷ calls) f n))

  pub meeting_places : (a : State) (calls : List (List ℕ)) (f n : ℕ) → NumberOf (Meets t a calls f n) (calls_in t a calls f n)
  meeting_places a calls f n =
      rw (count_places a calls f n)
      (count_number (length calls) _ _
      (λ k w. (
        w.0,
        (counted_under_lem t (get_or calls k []) f).0 (eqb-true _ f (and_left _ _ w.1)),
        eqb-true _ n (and_right (eqb (counted_under t (request_of (get_or calls k []))) f) _ w.1),
      ))
      (λ k w. (w.0, and_both _ _ (eq-eqb _ f ((counted_under_lem t (get_or calls k []) f).1 w.1)) (eq-eqb _ n w.2))))

  pub counts_within : (a : State) (calls : List (List ℕ)) (f n : ℕ) → calls_in t a calls f n ≤ length calls
  unfolding count_in put_numbers
  counts_within a [] f n = omega arith
  counts_within a (bytes ∷ calls) f n =
      let rest = counts_within (put_state t a bytes) calls f n in
      let one = at_most_one (eqb (counted_under t (request_of bytes)) f && eqb (judge_number t a bytes) n) in
      omega arith
    where
      at_most_one : (b : Bool) → cond b 1 0 ≤ 1
      at_most_one true = omega arith
      at_most_one false = omega arith

  -- ---- all places together

  pub counts_together : (a : State) (calls : List (List ℕ)) → Ready t a
      → sum_from (λ k. calls_in t a calls (k / 32) (k % 32)) 0 tally_cells ≡ length calls
  unfolding count_in put_numbers
  counts_together a [] ready = sum_none _ 0 tally_cells (λ j l. refl)
  counts_together a (bytes ∷ calls) ready =
      let row = row_within t ready.tables bytes in
      let small = judge_small t a bytes in
      let here = sum_place (counted_under t (request_of bytes)) (judge_number t a bytes) tally_cells small (omega arith) in
      let rest = counts_together (put_state t a bytes) calls (put_ready a bytes ready) in
      sum_both _ _ 0 tally_cells ∙ ap₂ ◌+◌ here rest ∙ omega arith
