-- The search for a free place, turn by turn: each pending place that was passed may not come before some pending one. A place whose row has
-- no pending member is free.
use Prim.Native.Nat.{ℕ, ◌^◌, ◌<◌}
use native.Mathlib.Omega.{arith}
use mathlib.Core.Path.{◌≡◌, sym, ap, ◌∙◌}
use mathlib.Core.Logic.{◌≢◌, ⊎_elim}
use mathlib.Core.Bool.{true, false, not, ◌&&◌}
use mathlib.Core.List.{List}
use lib.Bits.{bit_and, and_le_r}
use lib.Dec.{eqb}
use lib.ListN.{get_or}
use borrow.Author.Tests.{eqb-true}
use Rattle.bits.specs.Bits.{bit, without_bit}
use Rattle.bits.specs.Bounded.{lowest_below}
use Rattle.bits.proofs.Booleans.{and_left, and_right, and_both, decide, false_elim, false_intro}
use Rattle.bits.proofs.BitLaws.{bit_and_lem, bit_zero}
use Rattle.bits.proofs.LowestBit.{lowest_lt, lowest_set, bit_without}
use Rattle.sorting.specs.Sorting.{blocked, Free, AllBlocked}

pub record Searched (rows : List ℕ) (pending left : ℕ) : Type 0 where
  pub part : (i : ℕ) → bit left i ≡ true → bit pending i ≡ true
  pub passed : (i : ℕ) → bit pending i ≡ true → bit left i ≡ false → (j : ℕ) × (bit pending j ≡ true) × (blocked rows i j ≡ true)

pub search_start : (rows : List ℕ) (pending : ℕ) → Searched rows pending pending
search_start rows pending = record { part = λ i h. h; passed = λ i h n. absurd (false_elim (bit pending i) n h) }

pub search_none : (rows : List ℕ) (pending left : ℕ) → Searched rows pending left → left ≡ 0 → AllBlocked rows pending
search_none rows pending left s none i h = s.passed i h (ap (λ (n : ℕ). bit n i) none ∙ bit_zero i)

module _ (rows : List ℕ) (pending left : ℕ) (s : Searched rows pending left) (some : 0 < left) (narrow : left < 2 ^ 64) where
  abbrev place : ℕ
  place = lowest_below 64 (bit left)

  pub place_below_lem : place < 64
  place_below_lem = lowest_lt 64 left some narrow

  place_waits : bit pending place ≡ true
  place_waits = s.part place (lowest_set 64 left some narrow)

  pub search_free : bit_and (get_or rows place 0) pending ≡ 0 → Free rows pending place
  search_free none =
      record {
        below = place_below_lem;
        waits = place_waits;
        first = λ j h.
            false_intro (blocked rows place j) (λ b.
            false_elim (bit 0 j) (bit_zero j)
            (rw none at (bit_and_lem (get_or rows place 0) pending j ∙ and_both _ _ b h)));
      }

  pub search_on : pending < 2 ^ 64 → bit_and (get_or rows place 0) pending ≢ 0 → Searched rows pending (without_bit left place)
  search_on fits other =
      let common = bit_and (get_or rows place 0) pending in
      let within : common < 2 ^ 64 = omega (arith, and_le_r (get_or rows place 0) pending) in
      let at = lowest_below 64 (bit common) in
      let set : bit (get_or rows place 0) at && bit pending at ≡ true =
      sym (bit_and_lem (get_or rows place 0) pending at) ∙ lowest_set 64 common (omega (arith, other)) within in
      record {
        part = λ i h. s.part i (and_right (not (eqb i place)) _ (sym (bit_without left place i) ∙ h));
        passed = λ i h n.
            ⊎_elim
            (λ e.
            let kept = and_left (blocked rows place at) (bit pending at) set in
            (at, and_right (blocked rows place at) _ set, rw (eqb-true i place e) kept))
            (λ e. s.passed i h (rw e at (sym (bit_without left place i) ∙ n)))
            (decide (eqb i place));
      }
