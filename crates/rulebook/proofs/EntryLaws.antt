-- The tests over the arrays are those of the definition. A folder's firm is looked up modulo 64 in the code, and below 64 in the
-- definition, which is the same where it is below 64. No step enables step 0 exactly where 0 is not in the union of the sets.
use Prim.Native.Nat.{ℕ, zero, suc}
use mathlib.Core.Bool.{Bool, true, false, cond, not, ◌&&◌, ◌||◌}
use mathlib.Core.Path.{◌≡◌, refl, sym, ap, ◌∙◌}
use lib.Dec.{eqb, ltb, leb}
use lib.ListN.{get_or}
use borrow.Author.Tests.{ltb-true}
use Rattle.bits.specs.Bits.{bit}
use Rattle.bits.specs.Bounded.{any_below, all_below}
use Rattle.bits.proofs.Bounds.{all_ext}
use Rattle.policy.specs.declared.Folder.{Folder}
use Rattle.policy.specs.declared.Tables.{Tables}
use Rattle.policy.specs.Tables.{no_firm, no_person, no_role, enables, firm_declared, folder_at}
use Rattle.policy.specs.Rulebook.{firm_given, person_given, role_given, folder_given, given}
use Rattle.rulebook.specs.Steps.{enabled_below, circle_in, loose_in}
use Rattle.rulebook.specs.Entries.{folder_given_by, folder_given_among, folders_given}
use Rattle.rulebook.proofs.ListLaws.{within}
use Rattle.rulebook.proofs.StepLaws.{bit_enabled, circle_is, loose_is}

-- two tests of which the second is asked only where the first is true
and_where : (a b c : Bool) → (a ≡ true → b ≡ c) → a && b ≡ a && c
and_where true b c h = h refl
and_where false b c h = refl

folder_is : (t : Tables) (o : Folder) → folder_given_among t.firms o ≡ folder_given t o
unfolding folder_given_among folder_given_by folder_given firm_declared
folder_is t o =
    ap
    (λ (b : Bool).
    cond o.declared (b && leb o.kind 15) (eqb o.firm 0 && eqb o.kind 0 && eqb o.level.0 0 && not o.public))
    (and_where (ltb o.firm 64) _ _
    (λ l. within (λ (f : ℕ). (get_or t.firms f no_firm).declared) o.firm 64 (ltb-true _ _ l)))

pub folders_is : (t : Tables) → folders_given t.firms t.folders ≡ all_below 128 (λ o. folder_given t (folder_at t o))
unfolding folders_given
folders_is t = all_ext 128 _ _ (λ o l. folder_is t (folder_at t o))

not_or : (a b : Bool) → not a && not b ≡ not (a || b)
not_or true b = refl
not_or false b = refl

all_not : (n : ℕ) (p : ℕ → Bool) → all_below n (λ k. not (p k)) ≡ not (any_below n p)
unfolding all_below any_below
all_not zero p = refl
all_not (suc n) p = ap (λ (b : Bool). not (p n) && b) (all_not n p) ∙ not_or (p n) (any_below n p)

pub create_is : (t : Tables) → not (bit (enabled_below 16 t.steps) 0) ≡ all_below 16 (λ p. not (enables t p 0))
unfolding enables
create_is t =
    ap not (bit_enabled t.steps 16 0) ∙ sym (all_not 16 (λ p. bit (get_or t.steps p 0) 0))

-- the tests of the entries and of the steps, one after another
pub given_is : (t : Tables)
    → leb t.mask 15 && all_below 64 (λ f. firm_given (get_or t.firms f no_firm))
    && all_below 64 (λ s. person_given (get_or t.persons s no_person))
    && folders_given t.firms t.folders
    && all_below 32 (λ k. role_given (get_or t.roles k no_role))
    && not (bit (enabled_below 16 t.steps) 0)
    && not (circle_in t.steps)
    && not (loose_in t.steps)
    ≡ given t
unfolding given
given_is t = rw (folders_is t, create_is t, circle_is t, loose_is t)
