-- A step needs of the levels what a write needs, and lowers its person as a read does. Up to low-water a step and a write of one folder
-- pass the same checks; and a granted put adds its request to the set, so the levels of standing are met with its folder or stay.
use Prim.Native.Nat.{ℕ, ◌≤◌}
use mathlib.Core.Path.{◌≡◌, refl, sym, ap, ap₂, ◌∙◌}
use mathlib.Core.Logic.{◌⊎◌, inl, inr, ⊎_elim, ◌↔◌}
use mathlib.Core.Bool.{Bool, true, false, cond, ◌&&◌, and-true}
use mathlib.Core.List.{List, ◌++◌}
use mathlib.Core.Option.{Option, none, some}
use lib.Dec.{eqb}
use lib.ListN.{length}
use borrow.Author.Tests.{eqb-true, eqb-false, le-leb}
use Rattle.bits.proofs.Booleans.{and_left, false_elim, decide}
use Rattle.level.specs.declared.Comparison.TheVariants.{RankTooLow, CompartmentMissing}
use Rattle.level.specs.Levels.{is_at_most, at_most, meet_of}
use Rattle.level.proofs.Comparing.{rank_other, compartment_other, is_at_most_lem}
use Rattle.policy.specs.declared.Tables.{Tables}
use Rattle.policy.specs.Checks.{ladder}
use Rattle.policy.specs.Tables.{person_at, folder_at, person_declared, folder_declared}
use Rattle.policy.specs.Rulebook.{given}
use Rattle.policy.specs.History.{history_bytes, zeros}
use Rattle.policy.specs.Request.{Request, read, write, start, step, request_of, set_of}
use Rattle.policy.specs.Levels.{levels_bytes, level_at}
use Rattle.policy.specs.Rules.{declared, wall, level_outcome, low_water}
use Rattle.policy.specs.Calls.{
  State,
  blank_number,
  blank_state,
  call_checks,
  outcome_number,
  judge_number,
  recorded_if,
  put_state,
  standing_number,
  standing,
}
use Rattle.policy.specs.Published.{LowWaterInForce, Observes, Observed}
use Rattle.policy.specs.Causes.{record_bytes, PartiesDeclared}
use Rattle.policy.specs.StepsAlter.{OfLowWater, NotAtFront, LoweredBy, given_level, StepsAlter}
use Rattle.policy.specs.Clearances.{standing_outcome}
use Rattle.policy.proofs.CallChecks.{size_right, held_right, ready_passes}
use Rattle.policy.proofs.Requests.{person_below_lem, declared_person}
use Rattle.policy.proofs.Places.{size_recorded, set_zeros}
use Rattle.policy.proofs.Fronts.{front_request, request_front, parties_declared}
use Rattle.policy.proofs.PublishedNumbers.{standing_number_lem}
use Rattle.policy.proofs.Standings.{standing_ready, standing_person}
use Rattle.policy.proofs.Refusals.{put_refused}
use Rattle.policy.proofs.LevelBytes.{size_lowered, lowered_own, level_other as entry_other}
use Rattle.policy.proofs.Histories.{put_state_lem, added}
use Rattle.policy.proofs.Blanks.{blanked, first_declared}
use Rattle.policy.proofs.WallNumber.{walled}
use Rattle.policy.proofs.LevelNumber.{
  levelled,
  after_level,
  level_number,
  level_other,
  judged_level,
  same_refusal,
  Before,
  judged_granted,
}
use Rattle.policy.proofs.Clearances.{standing_zero, standing_level, granted_outcome, refused_outcome}
use Rattle.policy.proofs.Lowering.{level_stays, level_first, level_own, level_others}

-- ---- a step is judged as a write

-- up to low-water the two have the same checks
step_parties : (t : Tables) (s p o : ℕ) → p ≤ 15 → declared t (step s p o) ≡ declared t (write s o)
unfolding declared
step_parties t s p o l =
    ap (λ (b : Bool). person_declared t s && b && folder_declared t o) (le-leb p 15 l) ∙ rw (and-true (person_declared t s))

-- the numbers of both up to what comes after low-water
unfoldable write_number : Tables → State → ℕ → ℕ → ℕ → ℕ
write_number t a s o later =
    level_number (size_right a) (held_right a) (given t) (declared t (write s o)) (walled t (set_of a.history) (write s o))
    (levelled t (level_at a.levels) (write s o)) (outcome_number (level_outcome t (level_at a.levels) (write s o))) later

step_number : (t : Tables) (a : State) (bytes : List ℕ) (s p o : ℕ) → p ≤ 15 → request_of bytes ≡ some (step s p o)
    → judge_number t a bytes ≡ write_number t a s o (after_level t (set_of a.history) (step s p o))
unfolding write_number walled wall levelled low_water level_outcome
step_number t a bytes s p o l is = judged_level t a bytes (step s p o) is ∙ rw (step_parties t s p o l)

write_number_lem : (t : Tables) (a : State) (bytes : List ℕ) (s o : ℕ) → request_of bytes ≡ some (write s o)
    → judge_number t a bytes ≡ write_number t a s o (after_level t (set_of a.history) (write s o))
unfolding write_number
write_number_lem t a bytes s o is = judged_level t a bytes (write s o) is

as_write_lem : (t : Tables) (a : State) (bytes bytes' : List ℕ) (s p o n : ℕ) → p ≤ 15 → request_of bytes ≡ some (step s p o)
    → request_of bytes' ≡ some (write s o) → OfLowWater n → (judge_number t a bytes ≡ n) ↔ (judge_number t a bytes' ≡ n)
unfolding write_number
as_write_lem t a bytes bytes' s p o n l is is' of =
    let one = step_number t a bytes s p o l is in
    let other = write_number_lem t a bytes' s o is' in
    let H = set_of a.history in (
      λ e. other ∙ same_refusal _ _ _ _ _ _ _ _ _ _ (level_other t H (step s p o) n of) (sym one ∙ e),
      λ e. one ∙ same_refusal _ _ _ _ _ _ _ _ _ _ (level_other t H (write s o) n of) (sym other ∙ e),
    )

-- ---- the level of standing

-- a request granted under low-water has the outcome "at most", and one answered 15 or 21 has not
module _ (t : Tables) (a : State) (bytes : List ℕ) (r : Request) (is : request_of bytes ≡ some r) where
  at_most_lem : LowWaterInForce t → judge_number t a bytes ≡ 0 → is_at_most (standing_outcome t a r) ≡ true
  at_most_lem on e = (is_at_most_lem _).0 (granted_outcome t a bytes r is on e)

  not_at_most : OfLowWater (judge_number t a bytes) → is_at_most (standing_outcome t a r) ≡ false
  unfolding is_at_most outcome_number
  not_at_most (inl e) = ap is_at_most (refused_outcome t a bytes r is RankTooLow rank_other e)
  not_at_most (inr e) = ap is_at_most (refused_outcome t a bytes r is CompartmentMissing compartment_other e)

read_person : (t : Tables) (s o : ℕ) → declared t (read s o) ≡ true → person_declared t s ≡ true
unfolding declared
read_person t s o d = and_left (person_declared t s) _ d

-- ---- a granted put

granted_before : (t : Tables) (a : State) (bytes : List ℕ) (r : Request) → request_of bytes ≡ some r → judge_number t a bytes ≡ 0
    → Before (size_right a) (held_right a) (given t) (declared t r)
granted_before t a bytes r is e = (judged_granted t a bytes r is e).0

-- standing has the same number for buffers of the same lengths
same_number : (t : Tables) (a b : State) (s : ℕ) → length b.history ≡ length a.history → length b.levels ≡ length a.levels
    → standing_number t b s ≡ standing_number t a s
unfolding standing_number call_checks
same_number t a b s size held = rw (size, held)

-- and a level by that number
level_by_lem : (t : Tables) (a : State) (s : ℕ)
    → (standing t a s).level.0 ≡ cond (eqb (standing_number t a s) 0) (level_at a.levels s) 0
unfolding standing
level_by_lem t a s = ⊎_elim (λ e. rw e) (λ e. rw e) (decide (eqb (standing_number t a s) 0))

module _ (t : Tables) (a : State) (bytes : List ℕ) (r : Request) (is : request_of bytes ≡ some r) (e : judge_number t a bytes ≡ 0)
    (s : ℕ) where
  number_after : standing_number t (put_state t a bytes) s ≡ standing_number t a s
  number_after =
      rw (put_state_lem t a bytes r is e)
      (same_number t a _ s (size_recorded a.history r) (size_lowered t a.levels r))

  -- the person's own request on folder o
  lowered_by_lem : person_declared t s ≡ true → (o : ℕ) → Observes r s o → LoweredBy t a (put_state t a bytes) s o
  lowered_by_lem person o own =
      let before = granted_before t a bytes r is e in
      let zero-before = standing_zero t a s before person in
      let held = eqb-true (length a.levels) levels_bytes before.held in
      let zero-after = number_after ∙ zero-before in
      rw (standing_level t a s zero-before, standing_level t (put_state t a bytes) s zero-after, put_state_lem t a bytes r is e)
      (lowered_own t a.levels r s o held (person_below_lem t s person) own)

  -- a request that is no read and no step of the person
  unchanged : ((i : ℕ) → Observes r s i → ⊥) → (standing t (put_state t a bytes) s).level.0 ≡ (standing t a s).level.0
  unchanged other =
      level_by_lem t (put_state t a bytes) s
      ∙ ap₂ (λ (n l : ℕ). cond (eqb n 0) l 0) number_after
      (ap (λ (x : State). level_at x.levels s) (put_state_lem t a bytes r is e) ∙ entry_other t a.levels r s other)
      ∙ sym (level_by_lem t a s)

-- a record that does not stand at the front of the bytes is not the one that was put
not_own : (bytes : List ℕ) (r : Request) (s : ℕ) → request_of bytes ≡ some r → ((o : ℕ) → NotAtFront (read s o) bytes)
    → ((p o : ℕ) → NotAtFront (step s p o) bytes) → (i : ℕ) → Observes r s i → ⊥
not_own bytes (read s' o) s is reads steps i w =
    let (rest, front) = request_front bytes (read s' o) is in
    reads o rest (front ∙ ap (λ (x : ℕ). record_bytes (read x o) ++ rest) w.0)
not_own bytes (write s' o) s is reads steps i w = w
not_own bytes (start s' u) s is reads steps i w = w
not_own bytes (step s' p o) s is reads steps i w =
    let (rest, front) = request_front bytes (step s' p o) is in
    steps p o rest (front ∙ ap (λ (x : ℕ). record_bytes (step x p o) ++ rest) w.0)

put_none : (t : Tables) (a : State) (bytes : List ℕ) → request_of bytes ≡ none → put_state t a bytes ≡ a
unfolding put_state recorded_if
put_none t a bytes is = rw is (go (eqb (judge_number t a bytes) 0))
  where
    go : (b : Bool) → recorded_if t b a none ≡ a
    go true = refl
    go false = refl

-- what holds of the state before, and of the one after a granted put, holds of the state after any put
put_cases : (t : Tables) (a : State) (bytes : List ℕ) (P : State → Type 0) → P a
    → ((r : Request) → request_of bytes ≡ some r → judge_number t a bytes ≡ 0 → P (put_state t a bytes)) → P (put_state t a bytes)
put_cases t a bytes P before after = go (request_of bytes) refl
  where
    go : (q : Option Request) → request_of bytes ≡ q → P (put_state t a bytes)
    go none is = rw (put_none t a bytes is) before
    go (some r) is =
        ⊎_elim (λ e. after r is (eqb-true _ 0 e)) (λ n. rw (put_refused t a bytes (eqb-false (judge_number t a bytes) 0 n)) before)
        (decide (eqb (judge_number t a bytes) 0))

others_stay : (t : Tables) (a : State) (bytes : List ℕ) (s : ℕ) → ((o : ℕ) → NotAtFront (read s o) bytes)
    → ((p o : ℕ) → NotAtFront (step s p o) bytes) → (standing t (put_state t a bytes) s).level.0 ≡ (standing t a s).level.0
others_stay t a bytes s reads steps =
    put_cases t a bytes (λ b. (standing t b s).level.0 ≡ (standing t a s).level.0) refl
    (λ r is e. unchanged t a bytes r is e s (not_own bytes r s is reads steps))

-- ---- the level that a history gives

-- a read or a step of one person is on one folder
one_folder : (r : Request) (s o : ℕ) → Observes r s o → (i : ℕ) → (Observes r s i) ↔ (o ≡ i)
one_folder (read s' o') s o w i = (λ v. sym w.1 ∙ v.1, λ e. (w.0, w.1 ∙ e))
one_folder (write s' o') s o w i = absurd w
one_folder (start s' u) s o w i = absurd w
one_folder (step s' p o') s o w i = (λ v. sym w.1 ∙ v.1, λ e. (w.0, w.1 ∙ e))

module _ (t : Tables) (a : State) (bytes : List ℕ) (r : Request) (is : request_of bytes ≡ some r) (e : judge_number t a bytes ≡ 0) where
  adds : (q : Request) → (set_of (put_state t a bytes).history q ≡ true) ↔ ((q ≡ r) ⊎ (set_of a.history q ≡ true))
  adds q =
      let before = granted_before t a bytes r is e in
      added t a bytes r (eqb-true (length a.history) history_bytes before.size) is before.parties e q

  given_lowered : (s o : ℕ) → Observes r s o → given_level t (put_state t a bytes) s ≡ meet_of 12 (given_level t a s) (folder_at t o).level.0
  given_lowered s o w =
      level_own t (set_of a.history) (set_of (put_state t a bytes).history) r (granted_before t a bytes r is e).parties adds s o
      (one_folder r s o w)

  given_unchanged : (s : ℕ) → ((i : ℕ) → Observes r s i → ⊥) → given_level t (put_state t a bytes) s ≡ given_level t a s
  given_unchanged s other =
      level_others t (set_of a.history) (set_of (put_state t a bytes).history) r (granted_before t a bytes r is e).parties adds s other

given_stays : (t : Tables) (a : State) (bytes : List ℕ) (s : ℕ) → ((o : ℕ) → NotAtFront (read s o) bytes)
    → ((p o : ℕ) → NotAtFront (step s p o) bytes) → given_level t (put_state t a bytes) s ≡ given_level t a s
given_stays t a bytes s reads steps =
    put_cases t a bytes (λ b. given_level t b s ≡ given_level t a s) refl
    (λ r is e. given_unchanged t a bytes r is e s (not_own bytes r s is reads steps))

none_observed : (t : Tables) (s o : ℕ) → Observed t (set_of (zeros history_bytes)) s o → ⊥
none_observed t s o w =
    ⊎_elim (λ h. false_elim _ (set_zeros (read s o)) h.1) (λ v. let (p, h) = v in false_elim _ (set_zeros (step s p o)) h.1) w

given_first_lem : (t : Tables) (a : State) (s : ℕ) → blank_number t a ≡ 0 → given_level t (blank_state t a) s ≡ (person_at t s).level.0
given_first_lem t a s e = rw (blanked t a e) (level_first t (set_of (zeros history_bytes)) s (none_observed t s))

-- histories with the same requests of declared parties
passed_over_lem : (t : Tables) (a b : State) (s : ℕ)
    → ((q : Request) → PartiesDeclared t q → set_of a.history q ≡ set_of b.history q) → given_level t a s ≡ given_level t b s
passed_over_lem t a b s same = level_stays t (set_of h') (set_of h) s (λ i. (there i, back i))
  where
    h : List ℕ
    h = a.history

    h' : List ℕ
    h' = b.history

    at : (q : Request) → declared t q ≡ true → set_of h q ≡ set_of h' q
    at q d = same q ((parties_declared t q).0 d)

    there : (i : ℕ) → Observed t (set_of h) s i → Observed t (set_of h') s i
    there i (inl k) = inl (k.0, sym (at (read s i) k.0) ∙ k.1)
    there i (inr (p, k)) = inr (p, (k.0, sym (at (step s p i) k.0) ∙ k.1))

    back : (i : ℕ) → Observed t (set_of h') s i → Observed t (set_of h) s i
    back i (inl k) = inl (k.0, at (read s i) k.0 ∙ k.1)
    back i (inr (p, k)) = inr (p, (k.0, at (step s p i) k.0 ∙ k.1))

-- ---- from blank

blank_taken : (t : Tables) (a : State) (s : ℕ) → standing_number t (blank_state t a) s ≡ 0 → blank_number t a ≡ 0
unfolding blank_state blank_number
blank_taken t a s e =
    ⊎_elim (λ y. eqb-true (ladder (call_checks t a)) 0 y)
    (λ n. let left : standing_number t a s ≡ 0 = rw n at e in ready_passes t a (standing_ready t a s left))
    (decide (eqb (ladder (call_checks t a)) 0))

-- a blank that is refused leaves buffers or tables on which standing is refused
blank_level : (t : Tables) (a : State) (s : ℕ) → (standing t (blank_state t a) s).number ≡ 0
    → (standing t (blank_state t a) s).level.0 ≡ (person_at t s).level.0
blank_level t a s e =
    let number = sym (standing_number_lem t (blank_state t a) s) ∙ e in
    standing_level t (blank_state t a) s number
    ∙ first_declared t a (blank_taken t a s number) s (standing_person t (blank_state t a) s number)

pub steps_alter : StepsAlter
unfolding at_most
steps_alter =
    record {
      as_write = λ t a bytes bytes' rest rest' s p o n l f f'.
          as_write_lem t a bytes bytes' s p o n l (front_request (step s p o) rest f) (front_request (write s o) rest' f');
      granted = λ t a bytes rest s p o f. at_most_lem t a bytes (step s p o) (front_request (step s p o) rest f);
      refused = λ t a bytes rest s p o f. not_at_most t a bytes (step s p o) (front_request (step s p o) rest f);
      start_granted = λ t a bytes rest s u f. at_most_lem t a bytes (start s u) (front_request (start s u) rest f);
      start_refused = λ t a bytes rest s u f. not_at_most t a bytes (start s u) (front_request (start s u) rest f);
      lowers = λ t a bytes rest s p o f e.
          let is = front_request (step s p o) rest f in
          let person = declared_person t s p o (granted_before t a bytes (step s p o) is e).parties in
          lowered_by_lem t a bytes (step s p o) is e s person o (refl, refl);
      as_read = λ t a bytes rest s o f e.
          let is = front_request (read s o) rest f in
          let person = read_person t s o (granted_before t a bytes (read s o) is e).parties in
          lowered_by_lem t a bytes (read s o) is e s person o (refl, refl);
      leaves = others_stay;
      first = blank_level;
      given = λ t a bytes rest r s o f w e. given_lowered t a bytes r (front_request r rest f) e s o w;
      given_leaves = given_stays;
      given_first = given_first_lem;
      passed_over = passed_over_lem;
    }
