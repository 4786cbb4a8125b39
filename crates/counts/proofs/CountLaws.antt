-- One more for each request read is as many more as there are requests read of a firm with a number: each raises one of the 2,080 counts,
-- since its firm is at most 64 and its number at most 31, and a count raised first is the count raised once more at last.
use Prim.Native.Nat.{ℕ, zero, suc, ◌+◌, ◌-◌, ◌*◌, ◌/◌, ◌%◌, ◌^◌, ◌≤◌, ◌<◌, min}
use native.Mathlib.Omega.{arith}
use mathlib.Core.Path.{◌≡◌, refl, sym, ap, ap₂, ◌∙◌}
use mathlib.Core.Logic.{◌≢◌, ⊎_elim}
use mathlib.Core.Bool.{true, cond, ◌&&◌}
use mathlib.Core.List.{List, [], ◌∷◌, ◌++◌}
use lib.Dec.{eqb}
use lib.ListN.{length, get_or, set, length-set}
use borrow.Author.Tests.{le-ltb, eq-eqb, ne_eqb, eqb-true, eqb-false}
use Rattle.bits.proofs.Booleans.{decide}
use Rattle.policy.specs.declared.Tables.{Tables}
use Rattle.policy.specs.Rulebook.{given}
use Rattle.policy.specs.Request.{request_of}
use Rattle.policy.specs.Calls.{State, judge_number, put_state, put_numbers}
use Rattle.policy.specs.Tallies.{counted_under, count_in, largest_count, raised, raised_by, with_raised}
use Rattle.policy.proofs.Tallies.{one_place}
use Rattle.policy.proofs.CountedUnder.{row_within}
use Rattle.policy.proofs.TalliedCalls.{judge_small}
use Rattle.counts.specs.Counting.{raised_at, with_one, with_requests}

-- ---- one more

pub raised_by_one : (count : ℕ) → count < 2 ^ 64 → min (count + 1) (2 ^ 64 - 1) ≡ raised count
unfolding raised
raised_by_one count fits =
    ⊎_elim (λ e. let is = eqb-true count largest_count e in rw e (omega (arith, is)))
    (λ e. let other = eqb-false count largest_count e in rw e (omega (arith, fits, other)))
    (decide (eqb count largest_count))

pub one_raised : (counts : List ℕ) (f n : ℕ) → f ≤ 64 → n < 32 → with_one counts f n ≡ raised_at counts f n
unfolding with_one
one_raised counts f n row small = rw (le-ltb 64 f row, le-ltb 31 n (omega (arith, small)))

pub raised_length : (counts : List ℕ) (f n : ℕ) → length (raised_at counts f n) ≡ length counts
unfolding raised_at
raised_length counts f n = length-set counts _ _

-- a count raised first is the count raised once more
raised_first : (count m : ℕ) → raised_by (raised count) m ≡ raised (raised_by count m)
unfolding raised_by
raised_first count zero = refl
raised_first count (suc m) = ap raised (raised_first count m)

raised_once : (count m : ℕ) → raised_by count (1 + m) ≡ raised (raised_by count m)
unfolding raised_by
raised_once count m = let e : 1 + m ≡ suc m = omega arith in ap (raised_by count) e

-- ---- the counts one after another

-- one more at firm f and number n, which is at one place alone
module _ (f n : ℕ) (small : n < 32) where
  abbrev hit : ℕ → ℕ → ℕ
  hit g m = cond (eqb f g && eqb n m) 1 0

  struck : (k : ℕ) → k ≡ 32 * f + n → hit (k / 32) (k % 32) ≡ 1
  struck k e = rw (one_place f n k small, eq-eqb k (32 * f + n) e)

  missed : (k m : ℕ) → k ≢ 32 * f + n → hit (k / 32) (k % 32) + m ≡ m
  missed k m ne = rw (one_place f n k small, ne_eqb k (32 * f + n) ne) (omega arith)

  module _ (of : ℕ → ℕ → ℕ) where
    -- counts behind that place stay
    behind : (k : ℕ) (counts : List ℕ) → 32 * f + n < k → with_raised (λ g m. hit g m + of g m) k counts ≡ with_raised of k counts
    unfolding with_raised
    behind k [] l = refl
    behind k (count ∷ counts) l =
        ap₂ ◌∷◌ (ap (raised_by count) (missed k _ (λ e. omega (arith, e, l)))) (behind (suc k) counts (omega (arith, l)))

    -- a count raised before is raised once more after
    at_place : (k i : ℕ) (counts : List ℕ) → 32 * f + n ≡ k + i → i < length counts
        → with_raised of k (set counts i (raised (get_or counts i 0))) ≡ with_raised (λ g m. hit g m + of g m) k counts
    unfolding with_raised
    at_place k i [] e l = absurd (omega (arith, l))
    at_place k zero (count ∷ counts) e l =
        ap₂ ◌∷◌ (raised_first count _ ∙ sym (raised_once count _)
        ∙ ap (λ (m : ℕ). raised_by count (m + of (k / 32) (k % 32))) (sym (struck k (omega (arith, e)))))
        (sym (behind (suc k) counts (omega (arith, e))))
    at_place k (suc i) (count ∷ counts) e l =
        ap₂ ◌∷◌ (ap (raised_by count) (sym (missed k _ (λ q. omega (arith, e, q)))))
        (at_place (suc k) i counts (omega (arith, e)) (omega (arith, l)))

    at_firm : (counts : List ℕ) → f ≤ 64 → length counts ≡ 2080
        → with_raised of 0 (raised_at counts f n) ≡ with_raised (λ g m. hit g m + of g m) 0 counts
    unfolding raised_at
    at_firm counts row long = at_place 0 (32 * f + n) counts (omega arith) (omega (arith, row, small, long))

none_raised : (k : ℕ) (counts : List ℕ) → with_raised (λ f n. 0) k counts ≡ counts
unfolding with_raised raised_by
none_raised k [] = refl
none_raised k (count ∷ counts) = ap (◌∷◌ count) (none_raised (suc k) counts)

-- ---- the requests one after another

pub counted_all : (t : Tables) → given t ≡ true → (a : State) (calls : List (List ℕ)) (counts : List ℕ) → length counts ≡ 2080
    → with_requests t calls (put_numbers t a calls) counts ≡ with_raised (count_in t calls (put_numbers t a calls)) 0 counts
unfolding with_requests put_numbers count_in
counted_all t ok a [] counts long = sym (none_raised 0 counts)
counted_all t ok a (bytes ∷ calls) counts long =
    let f = counted_under t (request_of bytes) in
    let n = judge_number t a bytes in
    let row = row_within t ok bytes in
    let small = judge_small t a bytes in
    rw (one_raised counts f n row small)
    (counted_all t ok (put_state t a bytes) calls (raised_at counts f n) (raised_length counts f n ∙ long)
    ∙ at_firm f n small _ counts row long)

-- numbers past those of the requests are not looked at
pub counted_those : (t : Tables) (calls : List (List ℕ)) (numbers after counts : List ℕ) → length numbers ≡ length calls
    → with_requests t calls (numbers ++ after) counts ≡ with_requests t calls numbers counts
unfolding with_requests
counted_those t [] [] after counts e = refl
counted_those t [] (n ∷ numbers) after counts e = absurd (omega (arith, e))
counted_those t (bytes ∷ calls) [] after counts e = absurd (omega (arith, e))
counted_those t (bytes ∷ calls) (n ∷ numbers) after counts e = counted_those t calls numbers after _ (omega (arith, e))
