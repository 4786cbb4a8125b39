-- Comparing has three outcomes: by the test of the ranks, and where the ranks are in order by that of the compartments. So the outcome is
-- "at most" where both tests hold, tells the rank where the first fails, and a compartment where the second alone fails; and a set of
-- compartments that is not part of another has one that the other has not, found by a search below w.
use Prim.Native.Nat.{ℕ, ◌^◌, ◌≤◌, ◌<◌}
use native.Mathlib.Omega.{arith}
use mathlib.Core.Path.{◌≡◌, refl, sym, ap, ◌∙◌}
use mathlib.Core.Logic.{◌↔◌, ◌≢◌, ⊎_elim}
use mathlib.Core.Bool.{Bool, true, false, cond, not, ◌&&◌, false≢true}
use lib.Bits.{bit_and}
use lib.Dec.{leb, eqb}
use borrow.Author.Tests.{le-leb, leb-true, leb-false, lt-leb, eq-eqb, eqb-true, not-true}
use Rattle.bits.specs.Bits.{bit}
use Rattle.bits.specs.Bounded.{any_below}
use Rattle.bits.proofs.Booleans.{and_left, and_right, and_both, decide, false_elim, false_intro}
use Rattle.bits.proofs.Bounds.{any_some, some_any}
use Rattle.bits.proofs.BitLaws.{subset_bit, bit_subset}
use Rattle.level.specs.declared.Comparison.{Comparison}
use Rattle.level.specs.declared.Comparison.TheVariants.{AtMost, RankTooLow, CompartmentMissing}
use Rattle.level.specs.Levels.{rank_of, compartments_of, compare_of, is_at_most, at_most}

-- the outcome of the test of the ranks and that of the compartments
abbrev outcome : Bool → Bool → Comparison
outcome ranks sets = cond ranks (cond sets AtMost CompartmentMissing) RankTooLow

both_tests : (ranks sets : Bool) → is_at_most (outcome ranks sets) ≡ ranks && sets
unfolding is_at_most
both_tests true true = refl
both_tests true false = refl
both_tests false sets = refl

-- ---- the outcomes are three

pub rank_other : RankTooLow ≢ AtMost
rank_other e = let z : ◌≡◌ {A = ℕ} 0 1 = cc e in omega arith

pub compartment_other : CompartmentMissing ≢ AtMost
compartment_other e = let z : ◌≡◌ {A = ℕ} 0 1 = cc e in omega arith

pub compartment_no_rank : CompartmentMissing ≢ RankTooLow
compartment_no_rank e = let z : ◌≡◌ {A = ℕ} 0 1 = cc e in omega arith

-- ---- from the outcome to the tests

outcome_rank : (ranks sets : Bool) → outcome ranks sets ≡ RankTooLow → ranks ≡ false
outcome_rank true true e = cc e
outcome_rank true false e = cc e
outcome_rank false sets e = refl

outcome_compartment : (ranks sets : Bool) → outcome ranks sets ≡ CompartmentMissing → (ranks ≡ true) × (sets ≡ false)
outcome_compartment true true e = (refl, cc e)
outcome_compartment true false e = (refl, refl)
outcome_compartment false sets e = (cc e, cc e)

-- "at most" is the one outcome of its kind
pub is_at_most_lem : (c : Comparison) → (c ≡ AtMost) ↔ (is_at_most c ≡ true)
unfolding is_at_most
is_at_most_lem AtMost = (λ e. refl, λ e. refl)
is_at_most_lem RankTooLow = (λ e. cc e, λ e. absurd (false≢true e))
is_at_most_lem CompartmentMissing = (λ e. cc e, λ e. absurd (false≢true e))

module _ (w a b : ℕ) where
  abbrev ranked : Bool
  ranked = leb (rank_of w a) (rank_of w b)

  abbrev part : Bool
  part = eqb (bit_and (compartments_of w a) (compartments_of w b)) (compartments_of w a)

  compared : compare_of w a b ≡ outcome ranked part
  unfolding compare_of
  compared = refl

  pub at_most_tests : at_most w a b ≡ ranked && part
  unfolding at_most
  at_most_tests = ap is_at_most compared ∙ both_tests ranked part

  pub compared_below_lem : (compare_of w a b ≡ AtMost) ↔ (at_most w a b ≡ true)
  unfolding at_most
  compared_below_lem = is_at_most_lem (compare_of w a b)

  pub compared_rank_lem : (compare_of w a b ≡ RankTooLow) ↔ (rank_of w b < rank_of w a)
  compared_rank_lem = (
    λ e. leb-false (rank_of w a) (rank_of w b) (outcome_rank ranked part (sym compared ∙ e)),
    λ l. compared ∙ ap (λ (x : Bool). outcome x part) (lt-leb (rank_of w a) (rank_of w b) l),
  )

  -- a compartment of a that b has not
  abbrev pub Missing : Type 0
  Missing = (k : ℕ) × (bit (compartments_of w a) k ≡ true) × (bit (compartments_of w b) k ≡ false)

  missing : compartments_of w a < 2 ^ w → part ≡ false → Missing
  missing below f =
      let A = compartments_of w a in
      let B = compartments_of w b in
      let lacks : ℕ → Bool = λ k. bit A k && not (bit B k) in
      ⊎_elim
      (λ some. let (k, l, both) = any_some w lacks some in (k, and_left (bit A k) _ both, not-true _ (and_right (bit A k) _ both)))
      (λ none.
      let whole : bit_and A B ≡ A =
      bit_subset w A B below (λ k l own.
      ⊎_elim (λ e. e) (λ n. absurd (false_elim (any_below w lacks) none (some_any w lacks k l (and_both _ _ own (ap not n)))))
      (decide (bit B k))) in
      absurd (false_elim part f (eq-eqb (bit_and A B) A whole)))
      (decide (any_below w lacks))

  not_part : Missing → part ≡ false
  not_part (k, own, none) =
      let A = compartments_of w a in
      let B = compartments_of w b in
      false_intro part (λ e. false_elim (bit B k) none (subset_bit A B k (eqb-true (bit_and A B) A e) own))

  pub compared_compartment_lem : compartments_of w a < 2 ^ w
      → (compare_of w a b ≡ CompartmentMissing) ↔ ((rank_of w a ≤ rank_of w b) × Missing)
  compared_compartment_lem below = (
    λ e.
        let (high, lacks) = outcome_compartment ranked part (sym compared ∙ e) in
        (leb-true (rank_of w a) (rank_of w b) high, missing below lacks),
    λ h.
        compared ∙ ap (λ (x : Bool). outcome x part) (le-leb (rank_of w a) (rank_of w b) h.0)
        ∙ ap (λ (x : Bool). outcome true x) (not_part h.1),
  )
