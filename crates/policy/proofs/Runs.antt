-- A run whose own number is 0 puts one record after another and writes each number in its place, so the zeros among the bytes written are
-- the zeros among the numbers; each answer written is counted once.
use Prim.Native.Nat.{ℕ, suc, ◌+◌, ◌≤◌, ◌<◌}
use native.Mathlib.Omega.{arith}
use mathlib.Core.Path.{◌≡◌, refl, sym, ap, ◌∙◌}
use mathlib.Core.Logic.{⊎_elim, ◌≢◌}
use mathlib.Core.Bool.{not}
use mathlib.Core.List.{List, [], ◌∷◌, ◌++◌}
use lib.Dec.{eqb}
use lib.ListN.{length, get_or, drop, get_or-append}
use borrow.Author.Tests.{eqb-true, eqb-false, eq-eqb, ne_eqb, leb-true, not-true}
use Rattle.bits.proofs.Booleans.{decide}
use Rattle.policy.specs.declared.Tables.{Tables}
use Rattle.policy.specs.Calls.{
  State,
  put_state,
  put_numbers,
  calls_of,
  answers_due,
  granted_in,
  refused_in,
  run_number,
  ran,
  run_state,
  run_answers,
}
use Rattle.policy.specs.Counting.{NumberOf}
use Rattle.policy.specs.Demands.{Running, Runs}
use Rattle.policy.proofs.Ladders.{permit_first, ladder_zero}
use Rattle.policy.proofs.CallChecks.{taken_then}
use Rattle.policy.proofs.PublishedNumbers.{ran_number}
use Rattle.policy.proofs.Turned.{turns_of, turns_once}
use Rattle.policy.proofs.Counts.{count_number, granted_places, refused_places}

pub numbers_length : (t : Tables) (a : State) (calls : List (List ℕ)) → length (put_numbers t a calls) ≡ length calls
unfolding put_numbers
numbers_length t a [] = refl
numbers_length t a (bytes ∷ calls) = ap suc (numbers_length t (put_state t a bytes) calls)

pub counted_once : (numbers : List ℕ) → granted_in numbers + refused_in numbers ≡ length numbers
unfolding granted_in refused_in
counted_once [] = refl
counted_once (n ∷ numbers) =
    let rest = counted_once numbers in
    ⊎_elim (λ e. rw e (omega arith)) (λ e. rw e (omega arith)) (decide (eqb n 0))

-- there is room for the answers
run_room : (t : Tables) (a : State) (requests answers : List ℕ) → run_number t a requests answers ≡ 0 → answers_due requests ≤ length answers
unfolding run_number
run_room t a requests answers e =
    leb-true (answers_due requests) (length answers) (permit_first (ladder_zero _ refl (taken_then t a _ e).1))

-- the answers of a run whose checks pass are counted once, and there is room for them
pub counts_fit : (t : Tables) (a : State) (requests answers : List ℕ) → run_number t a requests answers ≡ 0
    → granted_in (put_numbers t a (calls_of requests)) + refused_in (put_numbers t a (calls_of requests)) ≤ length answers
unfolding answers_due
counts_fit t a requests answers e =
    let room = run_room t a requests answers e in
    let all = counted_once (put_numbers t a (calls_of requests)) in
    let size = numbers_length t a (calls_of requests) in
    omega arith

-- the zeros among the first bytes of a list, and the others, where these bytes are the numbers
module _ (numbers after : List ℕ) (count : ℕ) (all : length numbers ≡ count) where
  same_byte_lem : (k : ℕ) → k < count → get_or (numbers ++ after) k 0 ≡ get_or numbers k 0
  same_byte_lem k l = get_or-append numbers after 0 k (rw all l)

  zeros_counted : NumberOf (λ k. (k < count) × (get_or (numbers ++ after) k 0 ≡ 0)) (granted_in numbers)
  zeros_counted =
      rw (granted_places numbers, all)
      (count_number count (λ k. eqb (get_or numbers k 0) 0) _
      (λ k w. (w.0, same_byte_lem k w.0 ∙ eqb-true _ 0 w.1))
      (λ k w. (w.0, eq-eqb _ 0 (sym (same_byte_lem k w.0) ∙ w.1))))

  others_counted : NumberOf (λ k. (k < count) × (get_or (numbers ++ after) k 0 ≢ 0)) (refused_in numbers)
  others_counted =
      rw (refused_places numbers, all)
      (count_number count (λ k. not (eqb (get_or numbers k 0) 0)) _
      (λ k w. (w.0, λ z. eqb-false _ 0 (not-true _ w.1) (sym (same_byte_lem k w.0) ∙ z)))
      (λ k w. (w.0, ap not (ne_eqb _ 0 (λ z. w.1 (same_byte_lem k w.0 ∙ z))))))

module _ (t : Tables) (a : State) (requests answers : List ℕ) (z : (ran t a requests answers).number ≡ 0) where
  running : Running t a requests answers (calls_of requests)
  unfolding answers_due run_state run_answers ran
  running =
      let e : run_number t a requests answers ≡ 0 = sym (ran_number t a requests answers) ∙ z in
      let numbers = put_numbers t a (calls_of requests) in
      let all : length numbers ≡ length (calls_of requests) = numbers_length t a (calls_of requests) in
      record {
        left = rw e;
        written = rw e;
        granted = rw e (zeros_counted numbers (drop (length (calls_of requests)) answers) _ all);
        refused = rw e (others_counted numbers (drop (length (calls_of requests)) answers) _ all);
        together = rw e (counted_once numbers ∙ all);
      }

pub runs : Runs
runs =
    record {
      turns = λ requests. (calls_of requests, turns_of requests);
      once = λ requests calls calls' w w'. turns_once w ∙ sym (turns_once w');
      runs = λ t a requests answers calls w z. rw (turns_once w) (running t a requests answers z);
    }
