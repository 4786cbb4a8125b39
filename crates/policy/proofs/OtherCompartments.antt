-- What other compartments of the person who asks do to the outcome of low-water's comparison. A rank that is too low is too low with any
-- compartments, since ranks are compared first; and where a compartment is missing the rank suffices, so that every compartment makes the
-- outcome "at most". A person who starts oneself is compared with oneself, which is never refused.
use Prim.Native.Nat.{ℕ}
use mathlib.Core.Path.{◌≡◌, sym, ◌∙◌}
use mathlib.Core.Logic.{◌≢◌, ⊎_elim}
use lib.Dec.{eqb}
use borrow.Author.Tests.{eqb-true, eqb-false}
use Rattle.bits.proofs.Booleans.{decide}
use Rattle.bits.proofs.BitLaws.{bit_subset}
use Rattle.level.specs.declared.Comparison.{Comparison}
use Rattle.level.specs.declared.Comparison.TheVariants.{AtMost, RankTooLow, CompartmentMissing}
use Rattle.level.specs.Levels.{rank_of, compartments_of, compare_of}
use Rattle.level.proofs.Comparing.{rank_other, compartment_other, compared_below_lem, compared_rank_lem, compared_compartment_lem}
use Rattle.level.proofs.LevelLaws.{compartments_lt, at_most_intro, at_most_refl}
use Rattle.policy.specs.declared.Tables.{Tables}
use Rattle.policy.specs.Tables.{folder_at}
use Rattle.policy.specs.Request.{Request, read, write, start, step}
use Rattle.policy.specs.Rules.{modify_outcome, level_outcome}
use Rattle.policy.specs.Published.{requester}
use Rattle.policy.specs.Clearances.{EveryCompartment}

-- ---- two levels, of which the second has other compartments

same_level : (a : ℕ) → compare_of 12 a a ≡ AtMost
same_level a = (compared_below_lem 12 a a).1 (at_most_refl 12 a)

too_low : (a b b' : ℕ) → rank_of 12 b' ≡ rank_of 12 b → compare_of 12 a b ≡ RankTooLow → compare_of 12 a b' ≡ RankTooLow
too_low a b b' rank e = (compared_rank_lem 12 a b').1 (rw rank ((compared_rank_lem 12 a b).0 e))

covered : (a b b' : ℕ) → rank_of 12 b' ≡ rank_of 12 b → EveryCompartment b' → compare_of 12 a b ≡ CompartmentMissing
    → compare_of 12 a b' ≡ AtMost
covered a b b' rank every e =
    let suffices = ((compared_compartment_lem 12 a b (compartments_lt 12 a)).0 e).0 in
    (compared_below_lem 12 a b').1
    (at_most_intro 12 a b' (rw rank suffices)
    (bit_subset 12 (compartments_of 12 a) (compartments_of 12 b') (compartments_lt 12 a) (λ k l own. every k l)))

-- ---- a request, whose requester has other compartments

-- where the rank of the requester is kept, and so is every other level, an outcome goes to another as it does for two levels, of which the
-- second has the same rank and is such a level
module _ (t : Tables) (levels levels' : ℕ → ℕ) (r : Request) (rank : rank_of 12 (levels' (requester r)) ≡ rank_of 12 (levels (requester r)))
    (others : (u : ℕ) → u ≢ requester r → levels' u ≡ levels u) where
  module _ (c c' : Comparison) (refused : c ≢ AtMost) (Such : ℕ → Type 0)
      (goes : (a b b' : ℕ) → rank_of 12 b' ≡ rank_of 12 b → Such b' → compare_of 12 a b ≡ c → compare_of 12 a b' ≡ c') where
    outcome_goes : Such (levels' (requester r)) → level_outcome t levels r ≡ c → level_outcome t levels' r ≡ c'
    unfolding level_outcome modify_outcome
    outcome_goes such e = go r rank others such e
      where
        go : (q : Request) → rank_of 12 (levels' (requester q)) ≡ rank_of 12 (levels (requester q))
            → ((u : ℕ) → u ≢ requester q → levels' u ≡ levels u) → Such (levels' (requester q)) → level_outcome t levels q ≡ c
            → level_outcome t levels' q ≡ c'
        go (read s o) rank others such e = absurd (refused (sym e))
        go (write s o) rank others such e = goes (folder_at t o).level.0 (levels s) (levels' s) rank such e
        go (start s u) rank others such e =
            ⊎_elim
            (λ same.
            let own : compare_of 12 (levels s) (levels s) ≡ c = rw (eqb-true u s same) at e in
            absurd (refused (sym own ∙ same_level (levels s))))
            (λ other. rw (others u (eqb-false u s other)) (goes (levels u) (levels s) (levels' s) rank such e)) (decide (eqb u s))
        go (step s p o) rank others such e = goes (folder_at t o).level.0 (levels s) (levels' s) rank such e

  pub rank_stays : level_outcome t levels r ≡ RankTooLow → level_outcome t levels' r ≡ RankTooLow
  rank_stays e = outcome_goes RankTooLow RankTooLow rank_other (λ b. Unit {0}) (λ a b b' rank any. too_low a b b' rank) tt e

  pub compartments_suffice : EveryCompartment (levels' (requester r)) → level_outcome t levels r ≡ CompartmentMissing
      → level_outcome t levels' r ≡ AtMost
  compartments_suffice every e = outcome_goes CompartmentMissing AtMost compartment_other EveryCompartment covered every e
