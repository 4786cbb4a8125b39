-- A standing's level is the stored one, and its counts are those of the rights used and the firms opened: a bounded search finds exactly
-- the requests of the person, and on tables that a load gives every right and every firm is below 64.
use Prim.Native.Nat.{ℕ, ◌<◌}
use native.Mathlib.Omega.{arith}
use mathlib.Core.Path.{◌≡◌, refl, sym, ◌∙◌}
use mathlib.Core.Bool.{Bool, true, ◌&&◌}
use lib.Dec.{eqb}
use borrow.Author.Tests.{eqb-true, eq-eqb}
use Rattle.bits.proofs.Booleans.{and_left, and_right, and_both}
use Rattle.policy.specs.declared.Tables.{Tables}
use Rattle.policy.specs.Tables.{folder_at, person_declared}
use Rattle.policy.specs.Rulebook.{given}
use Rattle.policy.specs.Request.{Request, read, write, start, step, set_of}
use Rattle.policy.specs.Rules.{declared, right, did, used, opened}
use Rattle.policy.specs.Levels.{level_at}
use Rattle.policy.specs.Calls.{State, standing_number, standing}
use Rattle.policy.specs.Published.{requester, right_of, InHistory, Accessed}
use Rattle.policy.specs.Demands.{Standings, Entries, Levels}
use Rattle.policy.proofs.Ladders.{permit_first, ladder_zero}
use Rattle.policy.proofs.CallChecks.{Ready, taken_then}
use Rattle.policy.proofs.Requests.{declared_place, declared_step}
use Rattle.policy.proofs.Fronts.{is_person}
use Rattle.policy.proofs.Accesses.{access_declared, some_request_lem, request_some, did_in, in_did, opened_some, some_opened}
use Rattle.policy.proofs.Published.{subject_is, right_is, level_is_meet}
use Rattle.policy.proofs.PublishedNumbers.{standing_number_lem}
use Rattle.policy.proofs.GivenEntries.{folder_firm, folder_kind}
use Rattle.policy.proofs.Counts.{count_number}

module _ (t : Tables) (ok : given t ≡ true) where
  right_below : (q : Request) → declared t q ≡ true → right t q < 64
  unfolding right
  right_below (read s o) d = let l = folder_kind t ok o (access_declared t (read s o) s o d (refl, refl)) in omega arith
  right_below (write s o) d = let l = folder_kind t ok o (access_declared t (write s o) s o d (refl, refl)) in omega arith
  right_below (start s u) d = omega arith
  right_below (step s p o) d = let l = declared_step t s p o d in omega arith

  module _ (H : Request → Bool) (s : ℕ) where
    -- person s used right x by a request of the history
    Used : ℕ → Type 0
    Used x = (q : Request) × InHistory t H q × (requester q ≡ s) × (right_of t q ≡ x)

    used_request : (x : ℕ) → used t H s x ≡ true → Used x
    unfolding used Used
    used_request x e =
        let (q, own, w) = some_request_lem (λ q. did t H q && eqb (right t q) x) s e in
        let is = eqb-true (right t q) x (and_right (did t H q) _ w) in
        (q, did_in t H q (and_left (did t H q) _ w), sym (subject_is q) ∙ own, sym (right_is t q) ∙ is)

    request_used : (x : ℕ) → Used x → (x < 64) × (used t H s x ≡ true)
    unfolding used Used
    request_used x (q, known, own, is) =
        let used-as : right t q ≡ x = right_is t q ∙ is in
        let found = request_some (λ q. did t H q && eqb (right t q) x) q (declared_place t q known.0)
        (and_both _ _ (in_did t H q known) (eq-eqb (right t q) x used-as)) in
        (rw (← used-as) (right_below q known.0), rw (subject_is q ∙ own) at found)

    -- person s opened firm f by a folder accessed
    Opened : ℕ → Type 0
    Opened f = (o : ℕ) × Accessed t H s o × ((folder_at t o).firm ≡ f)

    opened_folder : (f : ℕ) → opened t H s f ≡ true → Opened f
    unfolding Opened
    opened_folder f e = let (o, a, is) = opened_some t H s f e in (o, a, sym is)

    folder_opened : (f : ℕ) → Opened f → (f < 64) × (opened t H s f ≡ true)
    unfolding Opened
    folder_opened f (o, a, is) = (
      rw (← is) (folder_firm t ok o (access_declared t a.0 s o a.1.0 a.2)),
      some_opened t H s f o a (sym is),
    )

pub standing_ready : (t : Tables) (a : State) (s : ℕ) → standing_number t a s ≡ 0 → Ready t a
unfolding standing_number
standing_ready t a s e = (taken_then t a _ e).0

pub standing_person : (t : Tables) (a : State) (s : ℕ) → standing_number t a s ≡ 0 → person_declared t s ≡ true
unfolding standing_number
standing_person t a s e = permit_first (ladder_zero _ refl (taken_then t a _ e).1)

pub standings : Standings
unfolding standing level_at Used Opened
standings t a s z =
    let e : standing_number t a s ≡ 0 = sym (standing_number_lem t a s) ∙ z in
    let ok = (standing_ready t a s e).tables in
    let H = set_of a.history in
    record {
      level = rw e;
      current = λ held. rw e (held s ((is_person t s).0 (standing_person t a s e)));
      rights = rw e (count_number 64 (used t H s) (Used t ok H s) (λ x w. used_request t ok H s x w.1) (request_used t ok H s));
      firms = rw e (count_number 64 (opened t H s) (Opened t ok H s) (λ f w. opened_folder t ok H s f w.1) (folder_opened t ok H s));
    }

pub entries : Entries
unfolding level_at
entries levels s = refl

pub levels : Levels
levels = level_is_meet
