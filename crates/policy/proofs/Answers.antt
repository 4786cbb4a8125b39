-- The number of an ordered list of checks is that of the first cause, where each check refuses exactly where its cause holds and both have
-- one number. By one row after another: a check that refuses gives its number, and one that permits leads to the next row.
use Prim.Native.Nat.{ℕ}
use mathlib.Core.Path.{◌≡◌, refl, sym, ap, ◌∙◌}
use mathlib.Core.Logic.{◌⊎◌, inl, inr, ⊎_elim, ◌↔◌}
use mathlib.Core.Bool.{Bool, true, false, not, ◌&&◌, beq, false≢true}
use mathlib.Core.List.{List, [], ◌∷◌}
use borrow.Author.Tests.{not-false}
use Rattle.bits.specs.Bounded.{◌implies◌}
use Rattle.bits.proofs.Booleans.{decide, false_elim, false_intro}
use Rattle.policy.specs.Checks.{Check, ladder}
use Rattle.policy.specs.Causes.{Cause, Answer}
use Rattle.policy.proofs.Ladders.{ladder_permits, ladder_refuses}

-- these checks have the number of the first of these causes
pub record Numbered (checks : List Check) (causes : List Cause) : Type 0 where
  pub number : (n : ℕ) → (ladder checks ≡ n) ↔ Answer causes n

pub no_rows : Numbered [] []
unfolding Answer ladder
no_rows = record { number = λ n. (λ e. sym e, λ e. sym e) }

-- a check refuses exactly where the cause holds
abbrev pub Refuses : Bool → Type 0 → Type 0
Refuses permits cause = (permits ≡ false) ↔ cause

-- a test that is true exactly where something holds refuses exactly where it does not
pub refuses_not : {permits : Bool} {fact : Type 0} → (permits ≡ true) ↔ fact → Refuses permits (fact → ⊥)
refuses_not {permits} w =
    (λ f h. false_elim permits f (w.1 h), λ none. false_intro permits (λ e. none (w.0 e)))

pub one_row : {check : Check} {cause : Cause} {checks : List Check} {causes : List Cause} → check.number ≡ cause.number
    → Refuses check.permits cause.holds → Numbered checks causes → Numbered (check ∷ checks) (cause ∷ causes)
unfolding Answer
one_row {check} {cause} {checks} same w rest =
    record {
      number = λ n. (
        λ e.
            ⊎_elim (λ t. inr (λ h. false_elim check.permits (w.1 h) t, (rest.number n).0 (sym (ladder_permits check checks t) ∙ e)))
            (λ f. inl (w.0 f, sym e ∙ ladder_refuses check checks f ∙ same)) (decide check.permits),
        λ a.
            ⊎_elim (λ h. ladder_refuses check checks (w.1 h.0) ∙ same ∙ sym h.1)
            (λ h.
            ⊎_elim (λ t. ladder_permits check checks t ∙ (rest.number n).1 h.1) (λ f. absurd (h.0 (w.0 f)))
            (decide check.permits)) a,
      );
    }

-- a check that permits, and for which there is no cause
pub passed_row : {check : Check} {checks : List Check} {causes : List Cause} → check.permits ≡ true → Numbered checks causes
    → Numbered (check ∷ checks) causes
passed_row {check} {checks} t rest = record { number = λ n. rw (ladder_permits check checks t) (rest.number n) }

-- a cause that does not hold, and for which there is no check
pub no_row : {cause : Cause} {checks : List Check} {causes : List Cause} → (cause.holds → ⊥) → Numbered checks causes
    → Numbered checks (cause ∷ causes)
unfolding Answer
no_row none rest =
    record {
      number = λ n. (
        λ e. inr (none, (rest.number n).0 e),
        λ a. ⊎_elim (λ h. absurd (none h.0)) (λ h. (rest.number n).1 h.1) a,
      );
    }

-- a check that refuses, and a cause that holds: what follows does not count
pub last_row : {check : Check} {cause : Cause} {checks : List Check} {causes : List Cause} → check.number ≡ cause.number
    → check.permits ≡ false → cause.holds → Numbered (check ∷ checks) (cause ∷ causes)
unfolding Answer
last_row {check} {cause} {checks} same f h =
    record {
      number = λ n. (
        λ e. inl (h, sym e ∙ ladder_refuses check checks f ∙ same),
        λ a. ⊎_elim (λ w. ladder_refuses check checks f ∙ same ∙ sym w.1) (λ w. absurd (w.0 h)) a,
      );
    }

-- as `one_row`, where what follows may take for granted that the check permits
pub then_row : {check : Check} {cause : Cause} {checks : List Check} {causes : List Cause} → check.number ≡ cause.number
    → Refuses check.permits cause.holds → (check.permits ≡ true → Numbered checks causes)
    → Numbered (check ∷ checks) (cause ∷ causes)
then_row {check} same w rest =
    ⊎_elim (λ t. one_row same w (rest t)) (λ f. last_row same f (w.0 f)) (decide check.permits)

-- a test refuses exactly where another one is true
pub refuses_where : {test : Bool} {fact : Type 0} → (test ≡ true) ↔ fact → Refuses (not test) fact
refuses_where {test} w = (λ f. w.0 (not-false test f), λ h. ap not (w.1 h))

-- a test that is asked only under a condition
pub refuses_under : {a b : Bool} {A B : Type 0} → (a ≡ true) ↔ A → (b ≡ true) ↔ B → Refuses (a implies not b) (A × B)
refuses_under {a} {b} v w = (
  λ f. let h = both a b f in (v.0 h.0, w.0 h.1),
  λ h. rw (v.1 h.0, w.1 h.1),
)
  where
    both : (a b : Bool) → (a implies not b) ≡ false → (a ≡ true) × (b ≡ true)
    both true b f = (refl, not-false b f)
    both false b f = absurd (false≢true (sym f))

-- two tests together refuse exactly where either does
pub refuses_either : {a b : Bool} {A B : Type 0} → Refuses a A → Refuses b B → Refuses (a && b) (A ⊎ B)
refuses_either {a = true} v w = (λ f. inr (w.0 f), ⊎_elim (λ h. absurd (false≢true (sym (v.1 h)))) (λ h. w.1 h))
refuses_either {a = false} v w = (λ f. inl (v.0 refl), λ h. refl)

-- causes have one answer
pub answer_once : (causes : List Cause) {n m : ℕ} → Answer causes n → Answer causes m → n ≡ m
unfolding Answer
answer_once [] a b = a ∙ sym b
answer_once (c ∷ causes) (inl a) (inl b) = a.1 ∙ sym b.1
answer_once (c ∷ causes) (inl a) (inr b) = absurd (b.0 a.0)
answer_once (c ∷ causes) (inr a) (inl b) = absurd (a.0 b.0)
answer_once (c ∷ causes) (inr a) (inr b) = answer_once causes a.1 b.1

-- two tests that must agree
pub refuses_unequal : {a b : Bool} {A B : Type 0} → (a ≡ true) ↔ A → (b ≡ true) ↔ B
    → Refuses (beq a b) ((B × (A → ⊥)) ⊎ ((B → ⊥) × A))
refuses_unequal {a = true} {b = true} v w =
    (λ f. absurd (false≢true (sym f)), ⊎_elim (λ h. absurd (h.1 (v.0 refl))) (λ h. absurd (h.0 (w.0 refl))))
refuses_unequal {a = true} {b = false} v w = (λ f. inr (λ h. false≢true (w.1 h), v.0 refl), λ h. refl)
refuses_unequal {a = false} {b = true} v w = (λ f. inl (w.0 refl, λ h. false≢true (v.1 h)), λ h. refl)
refuses_unequal {a = false} {b = false} v w = (
  λ f. absurd (false≢true (sym f)),
  ⊎_elim (λ h. absurd (false≢true (w.1 h.0))) (λ h. absurd (false≢true (v.1 h.1))),
)
