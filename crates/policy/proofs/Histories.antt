-- Put calls over the bytes of a history and of levels do what judging over the set of granted requests does: one put keeps both buffers
-- and the list of granted requests in step, and so does a list of puts. Hence histories from blank are equal exactly where the granted
-- sets are, and levels are equal there too.
use Prim.Native.Nat.{ℕ, ◌<◌}
use mathlib.Core.Path.{◌≡◌, refl, sym, ap, ap₂, ◌∙◌, fun_ext}
use mathlib.Core.Logic.{◌⊎◌, inl, inr, ⊎_elim, ◌↔◌}
use mathlib.Core.Bool.{Bool, true, false, ◌||◌, or_assoc, or-false}
use mathlib.Core.List.{List, [], ◌∷◌, reverse, reverse_aux, reverse-reverse}
use mathlib.Core.Option.{Option, none, some}
use lib.Dec.{eqb}
use lib.ListN.{length}
use borrow.Author.Tests.{eqb-true}
use Rattle.bits.proofs.Booleans.{or_cases, or_left, or_right, bool_ext, or_swap, decide, false_elim}
use Rattle.policy.specs.declared.Tables.{Tables}
use Rattle.policy.specs.Checks.{ladder}
use Rattle.policy.specs.Tables.{person_declared}
use Rattle.policy.specs.Rulebook.{given}
use Rattle.policy.specs.History.{history_bytes, zeros}
use Rattle.policy.specs.Request.{Request, read, step, request_of, set_of, recorded, same, member}
use Rattle.policy.specs.Levels.{level_at, first_level, first_levels, lowered}
use Rattle.policy.specs.Rules.{declared, current_level}
use Rattle.policy.specs.Calls.{
  State,
  state,
  blank_number,
  blank_state,
  request_checks,
  judge_with,
  judge_over,
  added_if,
  judge_list,
  judge_number,
  recorded_if,
  put_state,
  put_numbers,
  put_states,
}
use Rattle.policy.specs.Published.{Observed}
use Rattle.policy.specs.Agreement.{FromBlank, answered_zero, granted, SameSet}
use Rattle.policy.proofs.Requests.{
  same_eq,
  same_refl,
  member_none,
  member_more,
  added_one,
  member_in,
  in_member,
  person_below_lem,
  declared_place,
}
use Rattle.policy.proofs.Places.{set_recorded, set_zeros, Sized, sized_zeros, sized_recorded, set_history}
use Rattle.policy.proofs.Granted.{judge_passed, put_over, granted_over}
use Rattle.policy.proofs.CallChecks.{Ready, taken, ready_then}
use Rattle.policy.proofs.GivenEntries.{undeclared_person}
use Rattle.policy.proofs.Lowering.{level_first}
use Rattle.policy.proofs.LevelBytes.{Holding, holding_level, holding_ext, holding_one, holding_first}
use Rattle.policy.proofs.Held.{same_levels, holding_lowered}

-- ---- judging

-- on tables that a load gives and buffers of the right lengths, judge is judging over the set and the stored levels
pub judge_with_lem : (t : Tables) (a : State) (bytes : List ℕ) → Ready t a
    → judge_number t a bytes ≡ judge_with t (set_of a.history) (level_at a.levels) bytes
unfolding judge_number judge_with
judge_with_lem t a bytes ready = ready_then t a _ ready

-- ---- the same set

pub same_members : (g g' : List Request) → SameSet g g' → (r : Request) → member g r ≡ member g' r
same_members g g' s r =
    bool_ext _ _ (λ m. in_member r g' ((s r).0 (member_in r g m))) (λ m. in_member r g ((s r).1 (member_in r g' m)))

pub members_same : (g g' : List Request) → ((r : Request) → member g r ≡ member g' r) → SameSet g g'
members_same g g' m r =
    (λ i. member_in r g' (sym (m r) ∙ in_member r g i), λ i. member_in r g (m r ∙ in_member r g' i))

-- ---- the bytes and the list of granted requests, in step

-- the history holds the requests of g, and no others, and the levels are those that g gives
pub record InStep (t : Tables) (a : State) (g : List Request) : Type 0 where
  pub sized : Sized a.history
  pub holds : (r : Request) → set_of a.history r ≡ member g r
  pub current : Holding (current_level t (member g)) a.levels

no_observed : (t : Tables) (s o : ℕ) → Observed t (member []) s o → ⊥
no_observed t s o w =
    ⊎_elim (λ h. false_elim _ (member_none (read s o)) h.1)
    (λ v. let (p, h) = v in false_elim _ (member_none (step s p o)) h.1) w

-- the first level is the one that no request gives
first_current : (t : Tables) (s : ℕ) → given t ≡ true → s < 64 → first_level t s ≡ current_level t (member []) s
unfolding first_level
first_current t s ok below =
    let without = sym (level_first t (member []) s (no_observed t s)) in
    ⊎_elim (λ d. rw d without) (λ d. rw d (sym (undeclared_person t s ok below d) ∙ without)) (decide (person_declared t s))

pub stands_blank : (t : Tables) (a : State) → FromBlank t a → InStep t a []
unfolding blank_state blank_number
stands_blank t a (before, n, e) =
    let both : a ≡ state (zeros history_bytes) (first_levels t before.levels) = e ∙ rw n in
    rw both
    (record {
      sized = sized_zeros;
      holds = λ r. set_zeros r ∙ sym (member_none r);
      current =
          let ready = taken t before n in
          holding_ext _ _ _ (λ s below. first_current t s ready.tables below) (holding_first t before.levels ready.held);
    })

-- the requests of the calls answered 0, in the order of the calls, are the same list the other way round
reverse_added : (b : Bool) (r : Option Request) (g rest : List Request)
    → reverse_aux (added_if b r rest) g ≡ reverse_aux rest (added_if b r g)
unfolding added_if
reverse_added false r g rest = refl
reverse_added true none g rest = refl
reverse_added true (some r) g rest = refl

over_reversed : (t : Tables) (g : List Request) (calls : List (List ℕ))
    → granted_over t g calls ≡ reverse_aux (answered_zero calls (judge_list t g calls)) g
unfolding granted_over put_over answered_zero judge_list
over_reversed t g [] = refl
over_reversed t g (bytes ∷ calls) =
    over_reversed t (put_over t g bytes) calls ∙ sym (reverse_added (eqb (judge_over t (member g) bytes) 0) (request_of bytes) g _)

member_reversed : (l g : List Request) (r : Request) → member (reverse_aux l g) r ≡ member l r || member g r
unfolding member
member_reversed [] g r = refl
member_reversed (q ∷ l) g r =
    member_reversed l (q ∷ g) r ∙ or_swap (member l r) (same q r) (member g r) ∙ sym (or_assoc (same q r) (member l r) (member g r))

module _ (t : Tables) (ok : given t ≡ true) where
  -- the levels of a buffer that are those of the set
  stored_levels : (a : State) (g : List Request) → InStep t a g → (s : ℕ) → s < 64 → level_at a.levels s ≡ current_level t (member g) s
  stored_levels a g s u below = holding_level (current_level t (member g)) a.levels u s.current below

  pub judge_stands : (a : State) (g : List Request) (bytes : List ℕ) → InStep t a g
      → judge_number t a bytes ≡ judge_over t (member g) bytes
  unfolding judge_over
  judge_stands a g bytes s =
      judge_with_lem t a bytes (record { size = s.sized.size; held = s.current.size; tables = ok })
      ∙ ap (λ (H : Request → Bool). judge_with t H (level_at a.levels) bytes) (fun_ext s.holds)
      ∙ same_levels t (level_at a.levels) (current_level t (member g)) (λ u d. stored_levels a g s u (person_below_lem t u d)) (member g) bytes

  pub stands_put : (a : State) (g : List Request) (bytes : List ℕ) → InStep t a g
      → InStep t (put_state t a bytes) (added_if (eqb (judge_over t (member g) bytes) 0) (request_of bytes) g)
  unfolding put_state recorded_if added_if
  stands_put a g bytes s = rw (judge_stands a g bytes s) (go (eqb (judge_over t (member g) bytes) 0) refl)
    where
      go : (passed : Bool) → eqb (judge_over t (member g) bytes) 0 ≡ passed
          → InStep t (recorded_if t passed a (request_of bytes)) (added_if passed (request_of bytes) g)
      go false e = s
      go true e =
          let (r, is, passed) = judge_passed t (member g) bytes (eqb-true _ 0 e) in
          let h = a.history in
          rw is
          (record {
            sized = sized_recorded h r s.sized;
            holds =
                λ q. set_recorded h s.sized.size r q (declared_place t r passed.parties)
                ∙ ap (λ (b : Bool). same r q || b) (s.holds q) ∙ sym (member_more r q g);
            current = holding_lowered t (member g) (member (r ∷ g)) r passed.parties (added_one r g) a.levels s.current;
          })

  pub stands_puts : (a : State) (g : List Request) (calls : List (List ℕ)) → InStep t a g
      → InStep t (put_states t a calls) (granted_over t g calls)
  unfolding put_states granted_over put_over
  stands_puts a g [] s = s
  stands_puts a g (bytes ∷ calls) s = stands_puts (put_state t a bytes) _ calls (stands_put a g bytes s)

  numbers_stand : (a : State) (g : List Request) (calls : List (List ℕ)) → InStep t a g → put_numbers t a calls ≡ judge_list t g calls
  unfolding put_numbers judge_list
  numbers_stand a g [] s = refl
  numbers_stand a g (bytes ∷ calls) s =
      ap₂ ◌∷◌ (judge_stands a g bytes s) (numbers_stand (put_state t a bytes) _ calls (stands_put a g bytes s))

  -- ---- from blank

  -- the numbers are those of the definitions over the set granted so far
  pub numbers_over : (a : State) (calls : List (List ℕ)) → FromBlank t a → put_numbers t a calls ≡ judge_list t [] calls
  numbers_over a calls b = numbers_stand a [] calls (stands_blank t a b)

  over_granted : (a : State) (calls : List (List ℕ)) → FromBlank t a → granted_over t [] calls ≡ reverse (granted t a calls)
  unfolding granted
  over_granted a calls b =
      over_reversed t [] calls ∙ ap (λ (l : List ℕ). reverse (answered_zero calls l)) (sym (numbers_over a calls b))

  pub granted_reverse : (a : State) (calls : List (List ℕ)) → FromBlank t a → granted t a calls ≡ reverse (granted_over t [] calls)
  granted_reverse a calls b = sym (reverse-reverse (granted t a calls)) ∙ ap reverse (sym (over_granted a calls b))

  pub granted_member : (a : State) (calls : List (List ℕ)) (r : Request) → FromBlank t a
      → member (granted t a calls) r ≡ member (granted_over t [] calls) r
  granted_member a calls r b = sym (rw (over_granted a calls b, member_reversed, member_none, or-false))

  -- the buffers after the calls hold the granted requests, in whichever order, and the levels that these give
  pub after_puts : (a : State) (calls : List (List ℕ)) → FromBlank t a → InStep t (put_states t a calls) (granted_over t [] calls)
  after_puts a calls b = stands_puts a [] calls (stands_blank t a b)

  pub stands_granted : (a : State) (calls : List (List ℕ)) → FromBlank t a → InStep t (put_states t a calls) (granted t a calls)
  stands_granted a calls b =
      let s = after_puts a calls b in
      let same : member (granted_over t [] calls) ≡ member (granted t a calls) = fun_ext (λ r. sym (granted_member a calls r b)) in
      record {
        sized = s.sized;
        holds = λ r. s.holds r ∙ sym (granted_member a calls r b);
        current = holding_ext _ _ _ (λ u below. ap (λ (H : Request → Bool). current_level t H u) same) s.current;
      }

  -- histories are equal byte for byte exactly where the granted sets are
  pub equal_histories : (a b : State) (xs ys : List (List ℕ)) → FromBlank t a → FromBlank t b
      → ((put_states t a xs).history ≡ (put_states t b ys).history) ↔ SameSet (granted t a xs) (granted t b ys)
  equal_histories a b xs ys blank blank' =
      let x = stands_granted a xs blank in
      let y = stands_granted b ys blank' in (
        λ e. members_same _ _ (λ r. sym (x.holds r) ∙ ap (λ (l : List ℕ). set_of l r) e ∙ y.holds r),
        λ s. set_history _ _ x.sized y.sized (λ r. x.holds r ∙ same_members _ _ s r ∙ sym (y.holds r)),
      )

  -- and then the levels are, since the set gives them
  pub equal_levels : (a b : State) (xs ys : List (List ℕ)) → FromBlank t a → FromBlank t b
      → SameSet (granted t a xs) (granted t b ys) → (put_states t a xs).levels ≡ (put_states t b ys).levels
  equal_levels a b xs ys blank blank' s =
      let same : member (granted t a xs) ≡ member (granted t b ys) = fun_ext (same_members _ _ s) in
      holding_one (current_level t (member (granted t b ys))) _ _
      (holding_ext _ _ _ (λ u below. ap (λ (H : Request → Bool). current_level t H u) same) (stands_granted a xs blank).current)
      (stands_granted b ys blank').current

  -- the same set has the same future, because it has the same bytes
  pub same_future : (a b : State) (xs ys : List (List ℕ)) → FromBlank t a → FromBlank t b
      → SameSet (granted t a xs) (granted t b ys) → (zs : List (List ℕ))
      → (put_numbers t (put_states t a xs) zs ≡ put_numbers t (put_states t b ys) zs)
      × (put_states t (put_states t a xs) zs ≡ put_states t (put_states t b ys) zs)
  same_future a b xs ys blank blank' s zs =
      let e : put_states t a xs ≡ put_states t b ys =
      ap₂ state ((equal_histories a b xs ys blank blank').1 s) (equal_levels a b xs ys blank blank' s) in
      (ap (λ (x : State). put_numbers t x zs) e, ap (λ (x : State). put_states t x zs) e)

  -- the level of each person is the one that the history gives
  pub levels_stand : (a : State) (calls : List (List ℕ)) → FromBlank t a → (s : ℕ) → s < 64
      → level_at (put_states t a calls).levels s ≡ current_level t (set_of (put_states t a calls).history) s
  levels_stand a calls b s below =
      let after = stands_granted a calls b in
      let same : member (granted t a calls) ≡ set_of (put_states t a calls).history = fun_ext (λ r. sym (after.holds r)) in
      stored_levels (put_states t a calls) (granted t a calls) after s below ∙ ap (λ (H : Request → Bool). current_level t H s) same

-- ---- one put of a request that the bytes hold

pub judge_request : (t : Tables) (a : State) (bytes : List ℕ) (r : Request) → Ready t a → request_of bytes ≡ some r
    → judge_number t a bytes ≡ ladder (request_checks t (set_of a.history) (level_at a.levels) (some r))
unfolding judge_with
judge_request t a bytes r ready is =
    judge_with_lem t a bytes ready
    ∙ ap (λ (o : Option Request). ladder (request_checks t (set_of a.history) (level_at a.levels) o)) is

-- where it is granted, put leaves the history with it, and the levels lowered by it
pub put_state_lem : (t : Tables) (a : State) (bytes : List ℕ) (r : Request) → request_of bytes ≡ some r → judge_number t a bytes ≡ 0
    → put_state t a bytes ≡ state (recorded a.history r) (lowered t a.levels r)
unfolding put_state recorded_if
put_state_lem t a bytes r is e = rw (e, is)

-- it adds the request to the set, and nothing else
pub added : (t : Tables) (a : State) (bytes : List ℕ) (r : Request) → length a.history ≡ history_bytes → request_of bytes ≡ some r
    → declared t r ≡ true → judge_number t a bytes ≡ 0 → (q : Request)
    → (set_of (put_state t a bytes).history q ≡ true) ↔ ((q ≡ r) ⊎ (set_of a.history q ≡ true))
added t a bytes r n is d e q =
    let h = a.history in
    let now : set_of (put_state t a bytes).history q ≡ same r q || set_of h q =
    rw (put_state_lem t a bytes r is e) (set_recorded h n r q (declared_place t r d)) in (
      λ w. ⊎_elim (λ s. inl (sym (same_eq r q s))) (λ s. inr s) (or_cases (same r q) (set_of h q) (sym now ∙ w)),
      λ w. now ∙ ⊎_elim (λ (i : q ≡ r). or_left (same r q) (set_of h q) (rw i (same_refl r))) (λ s. or_right (same r q) _ s) w,
    )
