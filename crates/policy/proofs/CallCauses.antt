-- Each call's number is that of its first cause: row by row, a check refuses exactly where its cause holds. Lengths are compared as
-- numbers, tables that pass the test are those that a load gives, and each rule is its published form.
use Prim.Native.Nat.{ℕ, ◌<◌}
use mathlib.Core.Path.{◌≡◌, refl, sym}
use mathlib.Core.Logic.{◌↔◌, ◌≢◌, ⊎_elim}
use mathlib.Core.Bool.{Bool, true, false, false≢true}
use mathlib.Core.List.{List, ◌∷◌, ◌++◌}
use mathlib.Core.Option.{Option, none, some}
use lib.Dec.{eqb, leb}
use lib.ListN.{length}
use borrow.Author.Tests.{eqb-true, eq-eqb, leb-false, lt-leb}
use Rattle.bits.specs.Bounded.{◌implies◌}
use Rattle.bits.proofs.Booleans.{decide, implies_elim, implies_intro, false_elim, false_intro}
use Rattle.level.specs.declared.Comparison.{Comparison}
use Rattle.level.specs.declared.Comparison.TheVariants.{AtMost, RankTooLow, CompartmentMissing}
use Rattle.level.specs.Levels.{is_at_most}
use Rattle.level.proofs.Comparing.{rank_other, compartment_other, compartment_no_rank}
use Rattle.policy.specs.declared.Tables.{Tables}
use Rattle.policy.specs.Tables.{person_declared, in_force}
use Rattle.policy.specs.Rulebook.{given}
use Rattle.policy.specs.History.{history_bytes}
use Rattle.policy.specs.Request.{Request, request_of, set_of}
use Rattle.policy.specs.Levels.{levels_bytes, level_at}
use Rattle.policy.specs.Rules.{declared, low_water}
use Rattle.policy.specs.Calls.{
  State,
  blank_number,
  outcome_number,
  request_checks,
  call_checks,
  judge_number,
  calls_of,
  answers_due,
  run_number,
  ran,
  standing_number,
  standing,
}
use Rattle.policy.specs.Published.{IsCurrentLevel, IsHeldLevel}
use Rattle.policy.specs.Given.{OfType, LoadGives}
use Rattle.policy.specs.Causes.{
  Cause,
  ◌when◌,
  Answer,
  RequestAtFront,
  Turns,
  call_causes,
  judge_causes,
  run_causes,
  standing_causes,
}
use Rattle.policy.specs.Checks.{Check, ◌else◌, ladder}
use Rattle.policy.specs.Demands.{Causes}
use Rattle.policy.proofs.Answers.{Numbered, Refuses, refuses_not, no_rows, one_row, then_row, passed_row, no_row, last_row}
use Rattle.policy.proofs.Fronts.{front_only, front_none, is_person, parties_declared}
use Rattle.policy.proofs.Published.{wall_published, roles_published, pipeline_published}
use Rattle.policy.proofs.Held.{held_levels}
use Rattle.policy.proofs.Compared.{Party, Reads, reads_held, reads_current, declared_party, rank_compared, compartment_compared}
use Rattle.policy.proofs.PublishedNumbers.{ran_number, standing_number_lem}
use Rattle.policy.proofs.Turned.{turns_of, turns_once}
use Rattle.policy.proofs.Books.{gives}

-- a test that is equal to a number, and one that is at most a number
refuses_length : (n m : ℕ) → Refuses (eqb n m) (n ≢ m)
refuses_length n m = refuses_not (eqb-true n m, eq-eqb n m)

-- a rule refuses exactly where it is in force and does not permit
refuses_rule : (on permits : Bool) {fact : Type 0} → (permits ≡ true) ↔ fact
    → Refuses (on implies permits) ((on ≡ true) × (fact → ⊥))
refuses_rule on permits {fact} w = (
  λ f. (
    ⊎_elim (λ e. e) (λ off. absurd (false_elim (on implies permits) f (implies_intro on permits (λ e. absurd (false_elim on off e)))))
        (decide on),
    λ h. false_elim (on implies permits) f (implies_intro on permits (λ e. w.1 h)),
  ),
  λ x. false_intro (on implies permits) (λ e. x.1 (w.0 (implies_elim on permits e x.0))),
)

-- low-water refuses with two numbers: 15 exactly where it is in force and the rank is too low, and 21 where a compartment is missing
level_rows : (on : Bool) (c : Comparison) {rank compartment : Type 0} {checks : List Check} {causes : List Cause}
    → ((on ≡ true) × (c ≡ RankTooLow)) ↔ rank → ((on ≡ true) × (c ≡ CompartmentMissing)) ↔ compartment → Numbered checks causes
    → Numbered (((on implies is_at_most c) else outcome_number c) ∷ checks) ((15 when rank) ∷ (21 when compartment) ∷ causes)
unfolding is_at_most outcome_number
level_rows false c v w rest =
    no_row (λ x. false≢true (v.1 x).0) (no_row (λ x. false≢true (w.1 x).0) (passed_row refl rest))
level_rows true AtMost v w rest =
    no_row (λ x. rank_other (sym (v.1 x).1)) (no_row (λ x. compartment_other (sym (w.1 x).1)) (passed_row refl rest))
level_rows true RankTooLow v w rest = last_row refl refl (v.0 (refl, refl))
level_rows true CompartmentMissing v w rest =
    no_row (λ x. compartment_no_rank (v.1 x).1) (last_row refl refl (w.0 (refl, refl)))

-- the checks 10, 20 and 11, before others
module _ (t : Tables) (typed : OfType t) (a : State) where
  given_exactly : (given t ≡ true) ↔ LoadGives t
  given_exactly = (λ e. (gives t).0 (typed, e), λ w. ((gives t).1 w).1)

  pub call_rows : {checks : List Check} {causes : List Cause} → Numbered checks causes
      → Numbered (call_checks t a ++ checks) (call_causes t a ++ causes)
  unfolding call_checks
  call_rows rest =
      one_row refl (refuses_length (length a.history) history_bytes)
      (one_row refl (refuses_length (length a.levels) levels_bytes) (one_row refl (refuses_not given_exactly) rest))

  -- judging: the checks of the request at the front, where the levels of declared persons are read as those of the buffer
  module _ (IsLevel : ℕ → ℕ → Type 0) (reads : (s : ℕ) → person_declared t s ≡ true → Reads (level_at a.levels) IsLevel s) where
    request_rows : (bytes : List ℕ) (r : Request) → request_of bytes ≡ some r
        → Numbered (call_checks t a ++ request_checks t (set_of a.history) (level_at a.levels) (some r)) (judge_causes t a bytes IsLevel)
    unfolding request_checks in_force low_water
    request_rows bytes r e =
        call_rows
        (no_row (λ none-there. none-there ((front_only bytes r (λ r. Unit {0}) e).0 tt))
        (then_row refl (at_front (refuses_not (parties_declared t r))) (λ known.
        one_row refl (at_front (refuses_rule _ _ (wall_published t (set_of a.history) r)))
        (level_rows _ _ (in_front (rank_compared t _ IsLevel r (party r known)))
        (in_front (compartment_compared t _ IsLevel r (party r known)))
        (one_row refl (at_front (refuses_rule _ _ (roles_published t (set_of a.history) r)))
        (one_row refl (at_front (refuses_rule _ _ (pipeline_published t (set_of a.history) r))) no_rows))))))
      where
        party : (q : Request) → declared t q ≡ true → (s : ℕ) → Party q s → Reads (level_at a.levels) IsLevel s
        party q known s w = reads s (declared_party t q s known w)

        in_front : {on : Bool} {c d : Comparison} {P : Request → Type 0} → (c ≡ d) ↔ P r
            → ((on ≡ true) × (c ≡ d)) ↔ RequestAtFront bytes (λ q. (on ≡ true) × P q)
        in_front {on} {P} w =
            let here = front_only bytes r (λ q. (on ≡ true) × P q) e in
            (λ x. here.0 (x.0, w.0 x.1), λ x. let both = here.1 x in (both.0, w.1 both.1))

        at_front : {permits : Bool} {P : Request → Type 0} → Refuses permits (P r) → Refuses permits (RequestAtFront bytes P)
        at_front {permits} {P} w =
            let here = front_only bytes r P e in
            (λ f. here.0 (w.0 f), λ x. w.1 (here.1 x))

    no_request_rows : (bytes : List ℕ) → request_of bytes ≡ none
        → Numbered (call_checks t a ++ request_checks t (set_of a.history) (level_at a.levels) none) (judge_causes t a bytes IsLevel)
    unfolding request_checks
    no_request_rows bytes e = call_rows (last_row refl refl (front_none bytes e))

    judge_causes_lem : (bytes : List ℕ) (n : ℕ) → (judge_number t a bytes ≡ n) ↔ Answer (judge_causes t a bytes IsLevel) n
    unfolding judge_number
    judge_causes_lem bytes n = go (request_of bytes) refl
      where
        go : (r : Option Request) → request_of bytes ≡ r
            → (ladder (call_checks t a ++ request_checks t (set_of a.history) (level_at a.levels) (request_of bytes)) ≡ n)
            ↔ Answer (judge_causes t a bytes IsLevel) n
        go none e = rw e ((no_request_rows bytes e).number n)
        go (some r) e = rw e ((request_rows bytes r e).number n)

  run_causes_lem : (requests answers : List ℕ) (n : ℕ)
      → ((ran t a requests answers).number ≡ n) ↔ Answer (run_causes t a requests answers) n
  unfolding run_number answers_due
  run_causes_lem requests answers n =
      rw (ran_number t a requests answers)
      ((call_rows (one_row refl too_few no_rows)).number n)
    where
      too_few : Refuses (leb (length (calls_of requests)) (length answers))
          ((calls : List (List ℕ)) × Turns requests calls × (length answers < length calls))
      too_few = (
        λ f. (calls_of requests, turns_of requests, leb-false (length (calls_of requests)) (length answers) f),
        λ w.
            let (calls, turns, few) = w in
            lt-leb (length (calls_of requests)) (length answers) (rw (turns_once turns) at few),
      )

  standing_causes_lem : (s n : ℕ) → ((standing t a s).number ≡ n) ↔ Answer (standing_causes t a s) n
  unfolding standing_number
  standing_causes_lem s n =
      rw (standing_number_lem t a s) ((call_rows (one_row refl (refuses_not (is_person t s)) no_rows)).number n)

-- blank has the checks of every call, and no other
blank_causes : (t : Tables) (typed : OfType t) (a : State) (n : ℕ) → (blank_number t a ≡ n) ↔ Answer (call_causes t a) n
unfolding blank_number call_checks
blank_causes t typed a n = (call_rows t typed a no_rows).number n

pub causes : Causes
causes =
    record {
      blank = λ t a n typed. blank_causes t typed a n;
      judge = λ t a bytes n typed.
          judge_causes_lem t typed a (IsHeldLevel a.levels) (λ s known. reads_held a.levels s) bytes n;
      judge_by_set = λ t a bytes n typed held.
          judge_causes_lem t typed a (IsCurrentLevel t (set_of a.history))
          (λ s known. reads_current t (set_of a.history) (level_at a.levels) s (held_levels t a held s known)) bytes n;
      run = λ t a requests answers n typed. run_causes_lem t typed a requests answers n;
      standing = λ t a s n typed. standing_causes_lem t typed a s n;
    }
