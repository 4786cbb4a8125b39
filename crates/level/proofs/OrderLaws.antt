-- The order and the meet are as the specs say: each field is a law, with sets of compartments read bit by bit.
use mathlib.Core.Path.{◌∙◌, ap}
use Rattle.bits.specs.Bits.{bit}
use Rattle.bits.proofs.BitLaws.{bit_and_lem, subset_bit, bit_subset}
use Rattle.level.specs.Levels.{compartments_of}
use Rattle.level.specs.Order.{Order}
use Rattle.level.proofs.Comparing.{compared_below_lem, compared_rank_lem, compared_compartment_lem}
use Rattle.level.proofs.LevelLaws.{
  level_whole,
  rank_level,
  compartments_level,
  compartments_lt,
  at_most_rank,
  at_most_subset,
  at_most_intro,
  at_most_refl,
  at_most_trans,
  at_most_antisym,
  rank_meet,
  compartments_meet,
  split,
  lowest_least,
  highest_greatest,
}
use Prim.Native.Nat.{ℕ}

pub order : Order
order w =
    record {
      rank = rank_level w;
      compartments = compartments_level w;
      whole = level_whole w;
      below = λ a b. (
        λ e. (
          at_most_rank w a b e,
          λ k. subset_bit (compartments_of w a) (compartments_of w b) k (at_most_subset w a b e),
        ),
        λ h.
            at_most_intro w a b h.0
            (bit_subset w (compartments_of w a) (compartments_of w b) (compartments_lt w a) (λ k l. h.1 k)),
      );
      compared_below = λ a b. compared_below_lem w a b;
      compared_rank = λ a b. compared_rank_lem w a b;
      compared_compartment = λ a b. compared_compartment_lem w a b (compartments_lt w a);
      reflexive = at_most_refl w;
      transitive = at_most_trans w;
      antisymmetric = at_most_antisym w;
      meet_rank = rank_meet w;
      meet_compartments = λ a b k.
          ap (λ (x : ℕ). bit x k) (compartments_meet w a b) ∙ bit_and_lem (compartments_of w a) (compartments_of w b) k;
      meet = split w;
      lowest = lowest_least w;
      highest = highest_greatest w;
    }
