-- A run over counts so far, and the run of the rest, are the whole run.
use Prim.Native.Nat.{ℕ, ◌+◌, ◌-◌}
use native.Mathlib.Omega.{arith}
use mathlib.Core.Path.{◌≡◌, refl, sym, ap, ◌∙◌}
use mathlib.Core.List.{List, [], ◌∷◌, ◌++◌}
use lib.ListN.{length, drop, length-append}
use Rattle.policy.specs.declared.Tables.{Tables}
use Rattle.policy.specs.Calls.{State, calls_of, answers_due, granted_in}
use Rattle.policy.proofs.Runs.{numbers_length, counted_once}
use Rattle.questions.specs.Judging.{Ready}
use Rattle.putting.specs.Running.{run_numbers, Finished}
use Rattle.putting.proofs.Turns.{done_none, done_granted}
use Rattle.counts.specs.Counting.{with_requests}
use Rattle.counts.proofs.CountLaws.{counted_those}
use Rattle.tallying.specs.Raised.{counted_none}
use Rattle.tallying.specs.Counted.{Counted, CountedAll}

-- ---- a whole run

-- nothing is put yet
pub begun_none : {t : Tables} {a : State} {requests counts : List ℕ} → Ready t a.history a.levels → length counts ≡ 2080
    → Counted t a requests counts 0 0 0 a counts
begun_none ready long =
    record {
      answers = _;
      begun = record { done = done_none ready; within = omega arith; further = omega arith; same = refl };
      counted = counted_none long;
    }

-- few requests, put alone, whose answers are counted afterwards
pub few_counted : {t : Tables} {a : State} {requests lent written counts left : List ℕ} {zeros others : ℕ} {after : State}
    → Finished t a requests lent zeros others after written → left ≡ with_requests t (calls_of requests) written counts
    → CountedAll t a requests counts zeros others after left
few_counted {t} {a} {requests} {lent} {written} {counts} ran is =
    record {
      granted = ran.granted;
      refused = ran.refused;
      states = ran.left;
      counted =
          is ∙ ap (λ (ns : List ℕ). with_requests t (calls_of requests) ns counts) ran.answers
          ∙ counted_those t (calls_of requests) _ _ counts (numbers_length t a (calls_of requests));
    }

-- its two counts are together the answers due
pub together : {t : Tables} {a : State} {requests counts left : List ℕ} {zeros others : ℕ} {after : State}
    → CountedAll t a requests counts zeros others after left → zeros + others ≡ answers_due requests
unfolding answers_due
together {t} {a} {requests} ran =
    omega (arith, ran.granted, ran.refused, counted_once (run_numbers t a requests), numbers_length t a (calls_of requests))

granted_append : (xs ys : List ℕ) → granted_in (xs ++ ys) ≡ granted_in xs + granted_in ys
unfolding granted_in
granted_append [] ys = omega arith
granted_append (x ∷ xs) ys = omega (arith, granted_append xs ys)

module _ {t : Tables} {a₀ : State} {requests counts₀ : List ℕ} {at i granted : ℕ} {a : State} {counts : List ℕ}
    (so_far : Counted t a₀ requests counts₀ at i granted a counts) {zeros others : ℕ} {after : State} {left : List ℕ}
    (rest : CountedAll t a (drop at requests) counts zeros others after left)
  where
    -- a run so far and the run of the rest are the whole run
    pub counted_whole : CountedAll t a₀ requests counts₀ (granted + zeros) (i - granted + others) after left
    counted_whole =
        let done = so_far.begun.done in
        let all = numbers_length t a₀ (calls_of requests) in
        let grants : granted_in (run_numbers t a₀ requests) ≡ granted + zeros =
        ap granted_in done.numbers ∙ granted_append done.written _ ∙ omega (arith, done.zeros, rest.granted) in
        let tail = counted_once (run_numbers t a (drop at requests)) in
        let whole = counted_once (run_numbers t a₀ requests) in
        let size = ap length done.numbers ∙ length-append done.written (run_numbers t a (drop at requests)) in
        let few = done_granted done in
        record {
          granted = sym grants;
          refused = omega (arith, grants, rest.granted, rest.refused, tail, whole, size, done.many, few);
          states = rest.states ∙ sym done.states;
          counted = rest.counted ∙ sym so_far.counted.rest;
        }
