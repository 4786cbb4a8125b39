-- The sets of the firms of each class, gathered firm by firm: each firm goes into the set of its own class, and no other set changes.
use Prim.Native.Nat.{ℕ, ◌+◌, ◌<◌}
use mathlib.Core.Path.{◌≡◌, sym, ap, ◌∙◌}
use mathlib.Core.Logic.{⊎_elim}
use mathlib.Core.Bool.{Bool, true, false}
use mathlib.Core.List.{List}
use native.Mathlib.Omega.{arith}
use lib.Dec.{eqb}
use lib.ListN.{length, get_or, set, replicate, length-set, length-replicate, get_or-replicate}
use lib.Seq.{get_or-set_same, get_or-set_other}
use borrow.Author.Tests.{leb-true, eqb-true, eqb-false, eq-eqb}
use Rattle.bits.specs.Bits.{with_bit, mask_below}
use Rattle.bits.proofs.Booleans.{decide}
use Rattle.bits.proofs.Masks.{mask_start, mask_step}
use Rattle.policy.specs.declared.Tables.{Tables}
use Rattle.policy.specs.Tables.{firm_at}
use Rattle.policy.specs.Rulebook.{given}
use Rattle.policy.proofs.GivenEntries.{given_entries, firm_cases}
use Rattle.rules.specs.Sets.{firms_of, HasClasses}

-- a firm's class is one of 32
pub class_below : (t : Tables) (f : ℕ) → given t ≡ true → f < 64 → (firm_at t f).class < 32
class_below t f ok l =
    ⊎_elim (λ e. rw e (omega arith)) (λ e. let small = leb-true (firm_at t f).class 31 e.1 in omega arith)
    (firm_cases (firm_at t f) ((given_entries t ok).firms f l))

-- the firms below n, in the sets of their classes
pub record ClassesBelow (t : Tables) (n : ℕ) (sets : List ℕ) : Type 0 where
  pub size : length sets ≡ 32
  pub at : (class : ℕ) → class < 32 → get_or sets class 0 ≡ mask_below n (λ f. eqb (firm_at t f).class class)

pub classes_none : (t : Tables) → ClassesBelow t 0 (replicate 32 0)
classes_none t =
    record {
      size = length-replicate {A = ℕ} 32 0;
      at = λ class l. get_or-replicate 32 class 0 0 l ∙ sym (mask_start (λ f. eqb (firm_at t f).class class));
    }

pub classes_more : (t : Tables) (f : ℕ) (sets : List ℕ) {own x : ℕ} → ClassesBelow t f sets → own ≡ (firm_at t f).class → own < 32
    → x ≡ with_bit (get_or sets own 0) f → ClassesBelow t (f + 1) (set sets own x)
classes_more t f sets {own} {x} below of-class small new =
    record { size = length-set sets own x ∙ below.size; at = λ class l. ⊎_elim (here class) (other class l) (decide (eqb own class)) }
  where
    among : ℕ → ℕ → Bool
    among class = λ i. eqb (firm_at t i).class class

    here : (class : ℕ) → eqb own class ≡ true → get_or (set sets own x) class 0 ≡ mask_below (f + 1) (among class)
    here class e =
        let same = eqb-true own class e in
        let is : among class f ≡ true = eq-eqb _ _ (sym of-class ∙ same) in
        ap (λ (i : ℕ). get_or (set sets own x) i 0) (sym same) ∙ get_or-set_same sets own x 0 (rw below.size small) ∙ new
        ∙ mask_step f (among class) (ap (λ (i : ℕ). get_or sets i 0) same ∙ below.at class (rw (← same) small)) (rw is)

    other : (class : ℕ) → class < 32 → eqb own class ≡ false
        → get_or (set sets own x) class 0 ≡ mask_below (f + 1) (among class)
    other class l e =
        let differs = eqb-false own class e in
        let is : among class f ≡ false = ap (λ (i : ℕ). eqb i class) (sym of-class) ∙ e in
        get_or-set_other sets own class x 0 (λ i. differs (sym i)) ∙ mask_step f (among class) (below.at class l) (rw is)

pub classes_all : (t : Tables) (sets : List ℕ) → ClassesBelow t 64 sets → HasClasses t sets
unfolding firms_of
classes_all t sets below = record { size = below.size; at = below.at }
