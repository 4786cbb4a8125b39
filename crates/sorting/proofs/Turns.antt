-- Sorting, turn by turn: the places taken so far and those that are pending are all places, and each place taken may come before each later
-- one and before every pending one. A place that may come before every pending one keeps that, and when all are taken none is pending.
use Prim.Native.Nat.{ℕ, suc, ◌+◌, ◌-◌, ◌%◌, ◌^◌, ◌≤◌, ◌<◌}
use native.Mathlib.Nat.{mod-eq_of_lt}
use native.Mathlib.Omega.{arith}
use mathlib.Core.Path.{◌≡◌, refl, sym, ap, ◌∙◌}
use mathlib.Core.Logic.{⊎_elim}
use mathlib.Core.Bool.{true, false, not}
use mathlib.Core.List.Memᴰ
use mathlib.Core.List.Perm
use mathlib.Core.List.{
  List,
  [],
  ◌∷◌,
  ◌++◌,
  append_assoc,
  append-nil,
  Memᴰ,
  Perm,
}
use lib.Dec.{eqb}
use lib.ListN.{length, set, replicate, length-append}
use lib.Seq.{set_at}
use borrow.Author.Tests.{ne_eqb, eq-eqb}
use Rattle.bits.specs.Bits.{bit, without_bit, mask_below}
use Rattle.bits.proofs.Booleans.{and_right}
use Rattle.bits.proofs.BitLaws.{bit_below, bit_high}
use Rattle.bits.proofs.LowestBit.{bit_without}
use Rattle.bits.proofs.Masks.{bit_mask_below, mask_lt}
use Rattle.policy.specs.Plans.{places, places_from}
use Rattle.policy.proofs.Permuted.{permuted_length}
use Rattle.policy.proofs.JobOrders.{places_count, permuted_below}
use Rattle.sorting.specs.Sorting.{blocked, Free, AllBlocked, InOrder, Sorted, Unsorted}
use Rattle.sorting.proofs.Listed.{listed, listed_first, listed_without, listed_holds, holds_listed}

-- the pending places
abbrev members : ℕ → List ℕ
members pending = listed 0 64 (bit pending)

-- after k turns
pub record Taken (rows : List ℕ) (n k : ℕ) (positions : List ℕ) (pending : ℕ) : Type 0 where
  pub order : List ℕ
  pub size : length order ≡ k
  pub stands : positions ≡ order ++ replicate (64 - k) 0
  pub all : Perm (places n) (order ++ members pending)
  pub sorted : InOrder rows order
  pub early : (i : ℕ) → Memᴰ i order → (j : ℕ) → bit pending j ≡ true → blocked rows i j ≡ false

-- ---- the start

mask_below_lem : (n k : ℕ) → k < n → bit (mask_below n (λ i. true)) k ≡ true
mask_below_lem n k l = bit_mask_below n (λ i. true) k l

mask_beyond : (n k : ℕ) → n ≤ k → bit (mask_below n (λ i. true)) k ≡ false
mask_beyond n k l = bit_high n _ k (mask_lt n (λ i. true)) l

pub taken_none : (rows : List ℕ) (n : ℕ) → n ≤ 64 → Taken rows n 0 (replicate 64 0) (mask_below n (λ i. true))
unfolding InOrder places
taken_none rows n l =
    record {
      order = [];
      size = refl;
      stands = refl;
      all =
          rw (listed_first 64 0 n (bit (mask_below n (λ i. true))) l (λ k a b. mask_below_lem n k (omega arith))
          (λ k b. mask_beyond n k (omega arith)))
          (Perm.refl (places_from 0 n));
      sorted = tt;
      early = λ i m. absurd (Memᴰ.not-nil m);
    }

-- ---- one place more

in_order_more : (rows order : List ℕ) (i : ℕ) → InOrder rows order → ((k : ℕ) → Memᴰ k order → blocked rows k i ≡ false)
    → InOrder rows (order ++ i ∷ [])
unfolding InOrder
in_order_more rows [] i s early = (λ j m. absurd (Memᴰ.not-nil m), tt)
in_order_more rows (k ∷ order) i s early = (
  λ j m.
      ⊎_elim (λ b. s.0 j b) (λ e. ap (blocked rows k) (Memᴰ.eq_of_singleton e) ∙ early k (Memᴰ.head refl))
      (Memᴰ.append_cases order m),
  in_order_more rows order i s.1 (λ j m. early j (Memᴰ.tail m)),
)

zeros_next : (k : ℕ) → k < 64 → replicate {A = ℕ} (64 - k) 0 ≡ 0 ∷ replicate (64 - suc k) 0
zeros_next k l = let e : 64 - k ≡ suc (64 - suc k) = omega arith in ap (λ (m : ℕ). replicate {A = ℕ} m 0) e

module _ (rows : List ℕ) (n k : ℕ) (positions : List ℕ) (pending i : ℕ) (s : Taken rows n k positions pending) where
  taken_more : k < 64 → Free rows pending i → Taken rows n (suc k) (set positions k i) (without_bit pending i)
  taken_more l f =
      record {
        order = s.order ++ i ∷ [];
        size = length-append s.order (i ∷ []) ∙ omega (arith, s.size);
        stands =
            rw (s.stands, zeros_next k l)
            (set_at s.order 0 (replicate (64 - suc k) 0) i k s.size ∙ sym (append_assoc s.order (i ∷ []) _));
        all =
            Perm.trans s.all
            (rw (append_assoc s.order (i ∷ []) (members (without_bit pending i)))
            (Perm.append_left s.order
            (listed_without 64 0 (bit pending) (bit (without_bit pending i)) i (omega arith) f.below f.waits
            (bit_without pending i i ∙ rw (eq-eqb i i refl))
            (λ j other. bit_without pending i j ∙ rw (ne_eqb j i other)))));
        sorted = in_order_more rows s.order i s.sorted (λ j m. s.early j m i f.waits);
        early = λ j m p h.
            let waits = and_right (not (eqb p i)) _ (sym (bit_without pending i p) ∙ h) in
            ⊎_elim (λ b. s.early j b p waits) (λ e. ap (λ (q : ℕ). blocked rows q p) (Memᴰ.eq_of_singleton e) ∙ f.first p waits)
            (Memᴰ.append_cases s.order m);
      }

  -- the turn of a place that the search found
  pub taken_turn : {next : ℕ} → k < 64 → Free rows pending i → next ≡ without_bit pending (i % 64)
      → Taken rows n (k + 1) (set positions k i) next
  taken_turn l f e =
      let more : k + 1 ≡ suc k = omega arith in
      rw (e, mod-eq_of_lt f.below, more) (taken_more l f)

-- ---- the end

no_members : (l : List ℕ) → length l ≡ 0 → l ≡ []
no_members [] e = refl
no_members (x ∷ l) e = let z : ⊥ = omega arith in absurd z

some_member : (l : List ℕ) → 0 < length l → (x : ℕ) × Memᴰ x l
some_member [] e = let z : ⊥ = omega arith in absurd z
some_member (x ∷ l) e = (x, Memᴰ.head refl)

module _ (rows : List ℕ) (n k : ℕ) (positions : List ℕ) (pending : ℕ) (s : Taken rows n k positions pending) where
  left_over : length (members pending) + k ≡ n
  unfolding places
  left_over =
      omega (arith, places_count 0 n, permuted_length _ _ s.all, length-append s.order (members pending), s.size)

  pub taken_all : k ≡ n → Sorted rows n positions
  taken_all e =
      let none : members pending ≡ [] = no_members (members pending) (omega (arith, left_over)) in
      record {
        order = s.order;
        each = rw (none, append-nil s.order) at s.all;
        stands = rw (← e) s.stands;
        sorted = s.sorted;
      }

  pub taken_blocked : k < n → pending < 2 ^ 64 → AllBlocked rows pending → Unsorted rows n
  taken_blocked l narrow kept =
      let (place, listed) = some_member (members pending) (omega (arith, left_over)) in
      record {
        pending = pending;
        place = place;
        waits = listed_holds 64 0 (bit pending) place listed;
        inside = λ j h. inside j (holds_listed 64 0 (bit pending) j (omega arith) (bit_below 64 pending j narrow h) h);
        kept = kept;
      }
    where
      inside : (j : ℕ) → Memᴰ j (members pending) → j < n
      inside j m = permuted_below n (s.order ++ members pending) s.all j (Memᴰ.append_right s.order m)
