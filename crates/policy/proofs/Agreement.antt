-- The agreement, for every rulebook that loads and any two lists of put calls from blank. Its parts are shown elsewhere: tables in Loads,
-- numbers, histories, levels and future in Histories, the order of steps in StepOrder, reorderings in Reordering. Here they are put
-- together: the granted requests of a list, newest first, are those of its calls answered 0 the other way round.
use Prim.Native.Nat.{ℕ}
use native.Mathlib.Nat.{ℕ_set}
use mathlib.Core.Path.{◌≡◌, refl, sym, ap, ◌∙◌}
use mathlib.Core.Logic.{∥∥₁_elim}
use mathlib.Core.Bool.{Bool, true, false, cond}
use mathlib.Core.List.{
  List,
  [],
  ◌∷◌,
  reverse,
  reverse_aux,
  Perm,
}
use lib.Dec.{eqb}
use Rattle.bits.proofs.Booleans.{false_elim, false_intro}
use Rattle.policy.specs.declared.Tables.{Tables}
use Rattle.policy.specs.Tables.{person_declared, in_force, low_water_rule, pipeline_rule}
use Rattle.policy.specs.Rulebook.{given, load_book}
use Rattle.policy.specs.Request.{Request, read, write, start, step, set_of, member}
use Rattle.policy.specs.Levels.{level_at}
use Rattle.policy.specs.Calls.{State, put_states}
use Rattle.policy.specs.Held.{HoldsEach, HoldsZero}
use Rattle.policy.specs.Agreement.{FromBlank, granted, SameSet, Done, steps_on, Throughout, Claim}
use Rattle.policy.specs.Ways.{Way, Enables}
use Rattle.policy.proofs.Circles.{no_circle_lem}
use Rattle.policy.proofs.Granted.{granted_over}
use Rattle.policy.proofs.Histories.{
  same_members,
  numbers_over,
  granted_reverse,
  granted_member,
  stands_granted,
  equal_histories,
  equal_levels,
  same_future,
  levels_stand,
}
use Rattle.policy.proofs.Permuted.{permuted_in}
use Rattle.policy.proofs.Fronts.{is_person}
use Rattle.policy.proofs.GivenEntries.{undeclared_person}
use Rattle.policy.proofs.Published.{level_is_meet}
use Rattle.policy.proofs.Lowering.{level_first, observer_declared}
use Rattle.policy.proofs.Loads.{loaded_given, loaded_sets, loaded_no_circle}
use Rattle.policy.proofs.Holding.{loaded_holds}
use Rattle.policy.proofs.Reordering.{zeros_granted, granted_zeros, reordered}
use Rattle.policy.proofs.StepOrder.{same_order}

-- ---- the order of the calls

steps_reversed : (o : ℕ) (l g : List Request) → steps_on o (reverse_aux l g) ≡ reverse_aux (steps_on o l) (steps_on o g)
unfolding steps_on
steps_reversed o [] g = refl
steps_reversed o (read s f ∷ l) g = steps_reversed o l (read s f ∷ g)
steps_reversed o (write s f ∷ l) g = steps_reversed o l (write s f ∷ g)
steps_reversed o (start s u ∷ l) g = steps_reversed o l (start s u ∷ g)
steps_reversed o (step s p f ∷ l) g = steps_reversed o l (step s p f ∷ g) ∙ go (eqb f o)
  where
    this : Done
    this = record { person = s; number = p }

    go : (b : Bool)
        → reverse_aux (steps_on o l) (cond b (this ∷ steps_on o g) (steps_on o g))
        ≡ reverse_aux (cond b (this ∷ steps_on o l) (steps_on o l)) (steps_on o g)
    go true = refl
    go false = refl

-- ---- reorderings

module _ (t : Tables) (ok : given t ≡ true) (a b : State) (blank : FromBlank t a) (blank' : FromBlank t b) (xs ys : List (List ℕ)) where
  steps_in_order : in_force t pipeline_rule ≡ true → ((p : ℕ) → Way (Enables t) p p → ⊥) → SameSet (granted t a xs) (granted t b ys)
      → (o : ℕ) → steps_on o (granted t a xs) ≡ steps_on o (granted t b ys)
  unfolding steps_on
  steps_in_order on none same o =
      let members : (r : Request) → member (granted_over t [] xs) r ≡ member (granted_over t [] ys) r =
      λ r. sym (granted_member t ok a xs r blank) ∙ same_members _ _ same r ∙ granted_member t ok b ys r blank' in
      ap (steps_on o) (granted_reverse t ok a xs blank)
      ∙ steps_reversed o (granted_over t [] xs) []
      ∙ ap reverse (same_order t on none xs ys members o)
      ∙ sym (steps_reversed o (granted_over t [] ys) [])
      ∙ ap (steps_on o) (sym (granted_reverse t ok b ys blank'))

  every_order : in_force t low_water_rule ≡ false → in_force t pipeline_rule ≡ false → Perm xs ys → Throughout t a xs → Throughout t b ys
  every_order low pipe perm zeros n m =
      ∥∥₁_elim perm (ℕ_set n 0) (λ d.
      granted_zeros t [] ys
      (reordered t low pipe xs ys (permuted_in d)
      (zeros_granted t [] xs (λ k i. zeros k (rw (numbers_over t ok a xs blank) i)))) n
      (rw (numbers_over t ok b ys blank') at m))

  -- ---- the levels

  held_each : HoldsEach t (put_states t a xs)
  unfolding level_at
  held_each s below = rw (levels_stand t ok a xs blank s below) (level_is_meet t (set_of (put_states t a xs).history) s)

  -- an undeclared person read and stepped on nothing, and the first level is zero
  held_zero : HoldsZero t (put_states t a xs)
  unfolding level_at
  held_zero s below nobody =
      let undeclared = false_intro (person_declared t s) (λ d. nobody ((is_person t s).0 d)) in
      let H = set_of (put_states t a xs).history in
      levels_stand t ok a xs blank s below
      ∙ level_first t H s (λ o w. false_elim (person_declared t s) undeclared (observer_declared t H s o w))
      ∙ undeclared_person t s ok below undeclared

-- the agreement of every rulebook that loads
pub agreement : Claim
agreement book ok a b blank blank' xs ys =
    let t = (load_book book).tables in
    let given-tables = loaded_given book ok in
    record {
      tables = loaded_holds book ok;
      numbers = numbers_over t given-tables a xs blank;
      histories = equal_histories t given-tables a b xs ys blank blank';
      levels = equal_levels t given-tables a b xs ys blank blank';
      size = (stands_granted t given-tables a xs blank).current.size;
      held = held_each t given-tables a b blank blank' xs ys;
      others = held_zero t given-tables a b blank blank' xs ys;
      future = same_future t given-tables a b xs ys blank blank';
      steps = λ on.
          steps_in_order t given-tables a b blank blank' xs ys on
          (no_circle_lem t (loaded_sets book ok) (loaded_no_circle book ok));
      orders = every_order t given-tables a b blank blank' xs ys;
    }
