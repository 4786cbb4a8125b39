-- Visits of the folders of a set, the lowest first: they give what a pass over all 64 folders gives, since a folder outside the set changes
-- nothing, so that the lowest member can come first and then the others.
use Prim.Native.Nat.{ℕ, zero, suc, ◌+◌, ◌≤◌, ◌<◌}
use native.Mathlib.Nat.{lt_trans}
use native.Mathlib.Omega.{arith}
use mathlib.Core.Path.{◌≡◌, sym, ap, ◌∙◌}
use mathlib.Core.Bool.{Bool, cond}
use Rattle.bits.specs.Bits.{bit, without_bit, mask_below, fold_set}
use Rattle.bits.specs.Bounded.{fold_below, lowest_below}
use Rattle.bits.proofs.LowestBit.{lowest_lt, lowest_set, without_lt}
use Rattle.bits.proofs.Masks.{mask_lt, bit_mask_below}
use Rattle.bits.proofs.SetFolds.{fold_ext, set_none, set_lowest}
use Rattle.recorded.specs.Visits.{Leads}

-- ---- the first visit

module _ {A : Type 0} (turn : ℕ → A → A) (gathered : ℕ → A) (test : ℕ → Bool)
    (step : (o : ℕ) → o < 128 → cond (test o) (turn o (gathered o)) (gathered o) ≡ gathered (o + 1)) (first : ℕ) where
  -- n folders, one after another
  all_visited : (n : ℕ) → first + n ≤ 128
      → fold_below n (λ i x. cond (test (first + i)) (turn (first + i) x) x) (gathered first) ≡ gathered (first + n)
  unfolding fold_below
  all_visited zero l = let none : first ≡ first + 0 = omega arith in ap gathered none
  all_visited (suc n) l =
      let next : first + n + 1 ≡ first + suc n = omega arith in
      ap (λ (x : A). cond (test (first + n)) (turn (first + n) x) x) (all_visited n (omega arith)) ∙ step (first + n) (omega arith)
      ∙ ap gathered next

  pub visit_start : {set : ℕ} {x : A} → first + 64 ≤ 128 → set ≡ mask_below 64 (λ i. test (first + i)) → x ≡ gathered first
      → Leads (λ i. turn (first + i)) (gathered (first + 64)) set x
  unfolding fold_set
  visit_start {set} {x} l found before =
      record {
        fits = rw found (mask_lt 64 (λ i. test (first + i)));
        same =
            fold_ext 64 _ (λ i x. cond (test (first + i)) (turn (first + i) x) x) x (λ i x m.
            ap (λ (b : Bool). cond b (turn (first + i) x) x)
            (ap (λ (n : ℕ). bit n i) found ∙ bit_mask_below 64 (λ i. test (first + i)) i m))
            ∙ rw before (all_visited 64 l);
      }

-- ---- the others

module _ {A : Type 0} {turn : ℕ → A → A} {whole : A} {rest : ℕ} {x : A} (left : Leads turn whole rest x) where
  pub visited_lt : {i : ℕ} → 0 < rest → i ≡ lowest_below 64 (bit rest) → i < 64
  visited_lt some lowest = rw lowest (lowest_lt 64 rest some left.fits)

  pub visit_less : {next : ℕ} → 0 < rest → next ≡ without_bit rest (lowest_below 64 (bit rest)) → next < rest
  visit_less some others = rw others (without_lt rest _ (lowest_set 64 rest some left.fits))

  pub visit_next : {i next : ℕ} {y : A} → 0 < rest → i ≡ lowest_below 64 (bit rest)
      → next ≡ without_bit rest (lowest_below 64 (bit rest)) → y ≡ turn i x → Leads turn whole next y
  visit_next some lowest others turned =
      record {
        fits = lt_trans (visit_less some others) left.fits;
        same = rw (others, turned, lowest) (sym (set_lowest turn 64 rest x some left.fits) ∙ left.same);
      }

  -- turns that are alike on the 64 folders
  pub visit_alike : {turn' : ℕ → A → A} → ((i : ℕ) (y : A) → i < 64 → turn' i y ≡ turn i y) → Leads turn' whole rest x
  unfolding fold_set
  visit_alike {turn'} alike =
      record {
        fits = left.fits;
        same = fold_ext 64 _ _ x (λ i y l. ap (λ (z : A). cond (bit rest i) z y) (alike i y l)) ∙ left.same;
      }

  pub visit_end : rest ≡ 0 → x ≡ whole
  visit_end none = sym (set_none turn 64 x) ∙ ap (λ (n : ℕ). fold_set 64 n turn x) (sym none) ∙ left.same
