-- The sets of persons that are gathered are those of the rules' definitions: the openers of a firm are the persons for whom the wall counts
-- it, and the users of a right those who used it, for every declared person. Each folder says so by its own bits.
use Prim.Native.Nat.{ℕ, zero, suc, ◌+◌, ◌*◌, ◌<◌}
use native.Mathlib.Omega.{arith}
use mathlib.Core.Path.{◌≡◌, refl, sym, ap, ap₂, ◌∙◌}
use mathlib.Core.Logic.{⊎_elim}
use mathlib.Core.Bool.{Bool, true, false, not, ◌&&◌, ◌||◌, and_comm, or_comm, or-false}
use mathlib.Core.List.{List}
use lib.Bits.{bit_or}
use lib.Dec.{eqb, ltb}
use lib.ListN.{length, get_or, set, replicate}
use borrow.Author.Tests.{lt-ltb, ne_eqb}
use Rattle.bits.specs.Bits.{bit, mask_below}
use Rattle.bits.specs.Bounded.{any_below}
use Rattle.bits.proofs.BitLaws.{bit_zero}
use Rattle.bits.proofs.Booleans.{decide}
use Rattle.bits.proofs.Bounds.{any_ext, none_any}
use Rattle.bits.proofs.Masks.{bit_mask_below}
use Rattle.policy.specs.declared.Tables.{Tables}
use Rattle.policy.specs.Tables.{folder_at, person_declared}
use Rattle.policy.specs.Rulebook.{given}
use Rattle.policy.specs.History.{bit_at}
use Rattle.policy.specs.Request.{read, write, start, step, index, set_of}
use Rattle.policy.specs.Rules.{right, some_request, firm_of_some, did, accessed, counts, counted, used}
use Rattle.recorded.specs.Recorded.{read_at, written_at, step_at, touched_at, started}
use Rattle.past.proofs.Gathered.{any_or}
use Rattle.recorded.proofs.Recorded.{entry_below, any_and, did_read, did_write, did_step, did_start, undeclared, touched_access}
use Rattle.grouping.specs.Adding.{Added, recorded_in, touched_in, applied_to, applied_in}
use Rattle.grouping.specs.Groups.{Grouped, group_of, firm_group, kind_group}
use Rattle.gathering.specs.Users.{PersonSets, used_in}
use Rattle.grouping.proofs.AddingLaws.{added_both, added_one, added_ext}

-- ---- sets that were empty

pub zeros_at : (n x : ℕ) → ◌≡◌ {A = ℕ} (get_or (replicate n 0) x 0) 0
zeros_at zero x = refl
zeros_at (suc n) zero = refl
zeros_at (suc n) (suc x) = zeros_at n x

pub sets_are : {P : ℕ → ℕ → Bool} {sets : List ℕ} → Added P (replicate 81 0) sets → PersonSets P sets
sets_are {P} added =
    record {
      size = added.size;
      at = λ x s l.
          added.bits x s l ∙ ap (λ (n : ℕ). P x s || bit n s) (zeros_at 81 x) ∙ ap (λ (b : Bool). P x s || b) (bit_zero s)
          ∙ or-false (P x s);
    }

-- all that is added for the users of rights
pub users_are : (kinds h : List ℕ) (persons starters : ℕ) {a b c : List ℕ} {v : ℕ} → Added (recorded_in kinds 0 h 0) (replicate 81 0) a
    → Added (recorded_in kinds 16 h 8192) a b → Added (applied_in kinds h 128) b c → starters ≡ mask_below 64 (started persons h)
    → v ≡ bit_or (get_or c 32 0) starters → PersonSets (used_in kinds h persons) (set c 32 v)
unfolding used_in
users_are kinds h persons starters {a} {b} {c} one two three found e =
    let before = added_both (added_both one two) three in
    let room : 32 < length c = omega (arith, before.size) in
    sets_are
    (added_ext (added_both before (added_one c 32 starters room e)) (λ x s l.
    ap (λ (t : Bool). eqb 32 x && t || (applied_in kinds h 128 x s || (recorded_in kinds 16 h 8192 x s || recorded_in kinds 0 h 0 x s)))
    (ap (λ (n : ℕ). bit n s) found ∙ bit_mask_below 64 (started persons h) s l)))

-- ---- one folder

-- a group says the same as the number and that it counts
by_group : (above : ℕ) (counts here : Bool) (number x : ℕ) → x < 64
    → (counts && here) && eqb (above + number) x ≡ eqb (above + group_of counts number) x && here
unfolding group_of
by_group above true here number x l = and_comm here (eqb (above + number) x)
by_group above false here number x l =
    sym (ap (λ (b : Bool). b && here) (ne_eqb (above + 64) x (λ e. let z : ⊥ = omega (arith, e) in z)))

none_above : (n : ℕ) → 0 + n ≡ n
none_above n = omega arith

module _ (t : Tables) (h : List ℕ) (s : ℕ) (person : person_declared t s ≡ true) where
  access_is : (o : ℕ) → o < 128 → accessed t (set_of h) s o ≡ (folder_at t o).declared && touched_at h s o
  access_is o l =
      ⊎_elim (λ d. touched_access t h s person o l d ∙ rw d) (λ d. undeclared t h s person o l d ∙ rw d)
      (decide (folder_at t o).declared)

  -- ---- the wall

  turned_about : (d a n : Bool) → (d && a) && n ≡ (d && n) && a
  turned_about true a n = and_comm a n
  turned_about false a n = refl

  counted_on : (f o : ℕ) → f < 64 → o < 128
      → counts t (set_of h) s o && eqb (folder_at t o).firm f ≡ eqb (firm_group t o) f && touched_at h s o
  unfolding counts firm_group
  counted_on f o lf lo =
      let e = folder_at t o in
      ap (λ (b : Bool). (b && not e.public) && eqb e.firm f) (access_is o lo)
      ∙ ap (λ (b : Bool). b && eqb e.firm f) (turned_about e.declared (touched_at h s o) (not e.public))
      ∙ ap (λ (k : ℕ). ((e.declared && not e.public) && touched_at h s o) && eqb k f) (sym (none_above e.firm))
      ∙ by_group 0 (e.declared && not e.public) (touched_at h s o) e.firm f lf
      ∙ ap (λ (k : ℕ). eqb k f && touched_at h s o) (none_above (group_of (e.declared && not e.public) e.firm))

  pub counted_in : (groups : List ℕ) (f : ℕ) → Grouped (firm_group t) groups → f < 64
      → touched_in groups h f s ≡ counted t (set_of h) s f
  unfolding touched_in counted firm_of_some
  counted_in groups f known lf =
      any_ext 128 _ _ (λ o lo. ap (λ (k : ℕ). eqb k f && touched_at h s o) (known.each o lo) ∙ sym (counted_on f o lf lo))

  -- ---- the rights

  read_in : (kinds : List ℕ) (x : ℕ) → Grouped (kind_group t) kinds → x < 64
      → recorded_in kinds 0 h 0 x s ≡ any_below 128 (λ o. did t (set_of h) (read s o) && eqb (right t (read s o)) x)
  unfolding recorded_in right kind_group read_at index
  read_in kinds x known l =
      any_ext 128 _ _ (λ o lo.
      let e = folder_at t o in
      let place : 0 + 128 * s + o ≡ 128 * s + o = omega arith in
      ap₂ (λ (k i : ℕ). eqb (0 + k) x && bit_at h i) (known.each o lo) place
      ∙ sym
      (ap₂ (λ (b : Bool) (k : ℕ). b && eqb k x) (did_read t h s person o lo) (sym (none_above e.kind))
      ∙ by_group 0 e.declared (read_at h s o) e.kind x l))

  written_in : (kinds : List ℕ) (x : ℕ) → Grouped (kind_group t) kinds → x < 64
      → recorded_in kinds 16 h 8192 x s ≡ any_below 128 (λ o. did t (set_of h) (write s o) && eqb (right t (write s o)) x)
  unfolding recorded_in right kind_group written_at index
  written_in kinds x known l =
      any_ext 128 _ _ (λ o lo.
      let e = folder_at t o in
      ap (λ (k : ℕ). eqb (16 + k) x && bit_at h (8192 + 128 * s + o)) (known.each o lo)
      ∙ sym
      (ap (λ (b : Bool). b && eqb (16 + e.kind) x) (did_write t h s person o lo)
      ∙ by_group 16 e.declared (written_at h s o) e.kind x l))

  -- the steps on one folder, declared or not
  steps_on_lem : (x o : ℕ) (d : Bool) → (folder_at t o).declared ≡ d → o < 128
      → d && applied_to h o 16 x s ≡ any_below 16 (λ p. did t (set_of h) (step s p o) && eqb (48 + p) x)
  unfolding applied_to
  steps_on_lem x o true d l =
      any_ext 16 _ _ (λ p m.
      let own : did t (set_of h) (step s p o) ≡ step_at h s o p = did_step t h s person p o m l ∙ rw d in
      and_comm (eqb (48 + p) x) (step_at h s o p) ∙ ap (λ (b : Bool). b && eqb (48 + p) x) (sym own))
  steps_on_lem x o false d l = sym (none_any 16 _ (λ p m. rw (did_step t h s person p o m l, d)))

  -- a folder has a group exactly where it is declared
  has_group : given t ≡ true → (o : ℕ) (d : Bool) → (folder_at t o).declared ≡ d → o < 128 → ltb (kind_group t o) 64 ≡ d
  unfolding kind_group group_of
  has_group ok o true d l = rw d (let small = (entry_below t ok o l).kind d in lt-ltb (folder_at t o).kind 64 (omega arith))
  has_group ok o false d l = rw d

  applied_in_lem : (groups : List ℕ) (x : ℕ) → given t ≡ true → Grouped (kind_group t) groups
      → applied_in groups h 128 x s
      ≡ any_below 128 (λ o. any_below 16 (λ p. did t (set_of h) (step s p o) && eqb (right t (step s p o)) x))
  unfolding applied_in right
  applied_in_lem groups x ok known =
      any_ext 128 _ _ (λ o l.
      ap (λ (b : Bool). b && applied_to h o 16 x s)
      (ap (λ (k : ℕ). ltb k 64) (known.each o l) ∙ has_group ok o (folder_at t o).declared refl l)
      ∙ steps_on_lem x o (folder_at t o).declared refl l)

  started_in : (persons x : ℕ) → persons ≡ mask_below 64 (person_declared t)
      → eqb 32 x && started persons h s ≡ any_below 64 (λ u. did t (set_of h) (start s u) && eqb (right t (start s u)) x)
  unfolding started right
  started_in persons x known =
      and_comm (eqb 32 x) (started persons h s)
      ∙ sym
      (any_and 64 (λ u. did t (set_of h) (start s u)) (eqb 32 x)
      ∙ ap (λ (b : Bool). b && eqb 32 x) (any_ext 64 _ _ (λ u l. did_start t h s person u l known)))

  regrouped : (a b c d : Bool) → a || (b || (c || d)) ≡ ((d || c) || b) || a
  regrouped a b c d =
      or_comm a (b || (c || d))
      ∙ ap (λ (e : Bool). e || a) (or_comm b (c || d) ∙ ap (λ (e : Bool). e || b) (or_comm c d))

  pub used_in_lem : (kinds : List ℕ) (persons x : ℕ) → given t ≡ true → Grouped (kind_group t) kinds
      → persons ≡ mask_below 64 (person_declared t) → x < 64 → used_in kinds h persons x s ≡ used t (set_of h) s x
  unfolding used_in used some_request
  used_in_lem kinds persons x ok grouped known l =
      regrouped (eqb 32 x && started persons h s) (applied_in kinds h 128 x s) (recorded_in kinds 16 h 8192 x s) (recorded_in kinds 0 h 0 x s)
      ∙ ap₂ ◌||◌
      (ap₂ ◌||◌ (ap₂ ◌||◌ (read_in kinds x grouped l) (written_in kinds x grouped l) ∙ sym (any_or 128 _ _)) (applied_in_lem kinds x ok grouped)
      ∙ sym (any_or 128 _ _))
      (started_in persons x known)
