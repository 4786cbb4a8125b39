-- Puts under fewer rules. Where the mask has none of some rules, none of them is in force, since its bit would be in both. Where the roles
-- are not in force they set no bit, so the bits of the three rules are those of the wall and of the pipeline; where neither of these is,
-- the bits are those of the roles.
use Prim.Native.Nat.{ℕ, ◌/◌, ◌%◌, ◌^◌}
use mathlib.Core.Path.{◌≡◌, refl, sym, ap, ap₂, ◌∙◌}
use mathlib.Core.Logic.{⊎_elim, ◌≢◌}
use mathlib.Core.Bool.{Bool, true, false, cond, not, ◌&&◌}
use lib.Dec.{eqb}
use lib.Bits.{bit_and}
use borrow.Author.Tests.{eq-eqb, eqb-true}
use Rattle.bits.specs.Bits.{bit}
use Rattle.bits.proofs.Booleans.{decide, false_elim}
use Rattle.bits.proofs.BitLaws.{bit_and_lem, bit_zero}
use Rattle.policy.specs.Request.{Request}
use Rattle.branchfree.specs.Failing.{Failing, Enough, failing_of}

-- a mask with none of some rules, of which rule k is one
pub not_among : (mask some k : ℕ) → bit_and mask some ≡ 0 → some / 2 ^ k % 2 ≡ 1 → bit mask k ≡ false
unfolding bit
not_among mask some k none set =
    ⊎_elim
    (λ on.
    absurd
    (false_elim (bit 0 k) (bit_zero k)
    (ap (λ (n : ℕ). bit n k) (sym none) ∙ bit_and_lem mask some k ∙ ap₂ ◌&&◌ on (eq-eqb _ 1 set))))
    (λ e. e)
    (decide (bit mask k))

-- what is told where a rule is asked about
pub asked_about : (asked a b : ℕ) → asked ≢ 0 → cond (not (eqb asked 0)) a b ≡ a
asked_about asked a b some = ⊎_elim (λ e. absurd (some (eqb-true asked 0 e))) (λ e. rw e) (decide (eqb asked 0))

-- a test of a rule that is not in force is of no use, so it may be made on what is told where the rule is not asked about
only_asked : (asked force : Bool) {told own : Bool} → (asked && force) ≡ force → (asked ≡ true → told ≡ own) → force && told ≡ force && own
only_asked true force enough same = ap (λ (b : Bool). force && b) (same refl)
only_asked false force {told} {own} enough same = ap (λ (b : Bool). b && told) (sym enough) ∙ ap (λ (b : Bool). b && own) enough

same_failing : {wall wall' roles roles' pipeline pipeline' : Bool} (unknown rank compartment : Bool) → wall ≡ wall' → roles ≡ roles'
    → pipeline ≡ pipeline'
    → ◌≡◌ {A = Failing}
    (record { unknown = unknown; wall = wall; rank = rank; compartment = compartment; roles = roles; pipeline = pipeline })
    (record { unknown = unknown; wall = wall'; rank = rank; compartment = compartment; roles = roles'; pipeline = pipeline' })
same_failing unknown rank compartment a b c = rw (a, b, c)

pub fewer_failing : (wall roles pipeline : Bool) (q : Request) (mask a b : ℕ) (m n c : Bool) (counted class firm holding holders next p : ℕ)
    → Enough wall roles pipeline mask
    → failing_of q mask a b m n c (cond wall counted 0) class firm (cond roles holding 0) (cond roles holders 0) (cond pipeline next 0) p
    ≡ failing_of q mask a b m n c counted class firm holding holders next p
unfolding failing_of
fewer_failing wall roles pipeline q mask a b m n c counted class firm holding holders next p enough =
    same_failing _ _ _
    (only_asked wall _ enough.walls (λ e. rw e))
    (only_asked roles _ enough.rights (λ e. rw e))
    (only_asked pipeline _ enough.steps (λ e. rw e))
