-- Who holds a role: the persons outside the users of the rights beyond it. A set and the members outside it have no bit in common and all
-- bits between them, by induction on the width; the users of some rights are joined one after another, the lowest right first.
use Prim.Native.Nat.{ℕ, zero, suc, ◌+◌, ◌-◌, ◌/◌, ◌%◌, ◌^◌, ◌≤◌, ◌<◌}
use native.Mathlib.Nat.{pow-suc, eq-or-lt_of_le, lt_of_lt_of_le}
use native.Mathlib.Omega.{arith}
use mathlib.Core.Path.{◌≡◌, refl, sym, ap, ap₂, ◌∙◌}
use mathlib.Core.Logic.{⊎_elim}
use mathlib.Core.Bool.{Bool, true, false, cond, not, ◌&&◌, ◌||◌, and-false, or_comm}
use mathlib.Core.List.{List}
use lib.Bits.{bit_and, bit_or}
use lib.Dec.{eqb, ltb}
use lib.ListN.{length, get_or, set, replicate, length-set, length-replicate}
use lib.Pow.{pow_mono}
use lib.Seq.{get_or-set_same, get_or-set_other}
use borrow.Author.Tests.{eq-eqb, ne_eqb, ltb-true, ltb-false, le-ltb, not-true}
use Rattle.bits.specs.Bits.{bit, mask_below, fold_set}
use Rattle.bits.specs.Bounded.{any_below, fold_below}
use Rattle.bits.proofs.BitLaws.{bit_and_lem, bit_or_lem, bit_zero, bit_half, bit_low, bits_ext, subset_bit, bit_subset, digit}
use Rattle.bits.proofs.Booleans.{and_left, and_right, and_both, decide, false_elim}
use Rattle.bits.proofs.Bounds.{any_ext, any_some, some_any}
use Rattle.bits.proofs.Masks.{mask_lt, bit_mask, bit_mask_below}
use Rattle.recorded.specs.Visits.{Leads}
use Rattle.rules.specs.Sets.{covers}
use Rattle.gathering.specs.Users.{Rows, Holds, among_sets, join_set, beyond}
use Rattle.gathering.proofs.UserLaws.{zeros_at}

-- ---- the members outside a set

low_outside : (n m : ℕ) → n % 2 + m % 2 ≡ 1 → eqb (m % 2) 1 ≡ not (eqb (n % 2) 1)
low_outside n m e =
    ⊎_elim
    (λ (z : n % 2 ≡ 0).
    let o : m % 2 ≡ 1 = omega arith in
    ap (λ (k : ℕ). eqb k 1) o ∙ sym (ap (λ (k : ℕ). not (eqb k 1)) z))
    (λ (o : n % 2 ≡ 1).
    let z : m % 2 ≡ 0 = omega arith in
    ap (λ (k : ℕ). eqb k 1) z ∙ sym (ap (λ (k : ℕ). not (eqb k 1)) o))
    (digit (n % 2) (omega arith))

outside_bit : (w n m k : ℕ) → n + m + 1 ≡ 2 ^ w → k < w → bit m k ≡ not (bit n k)
outside_bit zero n m k e l = absurd (omega arith)
outside_bit (suc w) n m zero e l =
    bit_low m ∙ low_outside n m (omega (arith, pow-suc 2 w)) ∙ ap not (sym (bit_low n))
outside_bit (suc w) n m (suc k) e l =
    sym (bit_half m k) ∙ outside_bit w (n / 2) (m / 2) k (omega (arith, pow-suc 2 w)) (omega arith) ∙ ap not (bit_half n k)

pub outside_is : (n k : ℕ) → n < 2 ^ 64 → k < 64 → bit (18446744073709551615 - n) k ≡ not (bit n k)
outside_is n k fits l = outside_bit 64 n (18446744073709551615 - n) k (omega arith) l

-- ---- the persons of some sets

module _ (sets : List ℕ) (numbers : ℕ) where
  pub among_start : numbers < 2 ^ 64 → Leads (join_set sets) (fold_set 64 numbers (join_set sets) 0) numbers 0
  among_start fits = record { fits = fits; same = refl }

  joined_bit : (n s : ℕ) → bit (fold_set n numbers (join_set sets) 0) s ≡ any_below n (λ x. bit numbers x && bit (get_or sets x 0) s)
  unfolding fold_set fold_below any_below join_set
  joined_bit zero s = bit_zero s
  joined_bit (suc n) s = go (bit numbers n) (joined_bit n s)
    where
      before : ℕ
      before = fold_set n numbers (join_set sets) 0

      go : (b : Bool) → bit before s ≡ any_below n (λ x. bit numbers x && bit (get_or sets x 0) s)
          → bit (cond b (bit_or before (get_or sets n 0)) before) s
          ≡ b && bit (get_or sets n 0) s || any_below n (λ x. bit numbers x && bit (get_or sets x 0) s)
      go true e = bit_or_lem before (get_or sets n 0) s ∙ or_comm (bit before s) (bit (get_or sets n 0) s)
          ∙ ap (λ (t : Bool). bit (get_or sets n 0) s || t) e
      go false e = e

  pub among_is : (s : ℕ) {joined : ℕ} → joined ≡ fold_set 64 numbers (join_set sets) 0 → bit joined s ≡ among_sets sets numbers s
  unfolding among_sets
  among_is s e = ap (λ (n : ℕ). bit n s) e ∙ joined_bit 64 s

-- ---- the persons of a role

-- a set that has a person is not empty
some_used : (n s : ℕ) → bit n s ≡ true → not (eqb n 0) ≡ true
some_used n s b = ap not (ne_eqb n 0 (λ z. false_elim (bit 0 s) (bit_zero s) (ap (λ (m : ℕ). bit m s) (sym z) ∙ b)))

unneeded : (a b c : Bool) → (c ≡ true → a ≡ true) → (a && b) && c ≡ b && c
unneeded a b true h = ap (λ (t : Bool). (t && b) && true) (h refl)
unneeded a b false h = and-false (a && b) ∙ sym (and-false b)

module _ (users : List ℕ) (used rights others : ℕ) (known : used ≡ mask_below 64 (λ x. not (eqb (get_or users x 0) 0)))
    (outside : (k : ℕ) → k < 64 → bit others k ≡ not (bit rights k)) where
  lacking_is : (s : ℕ) → among_sets users (bit_and used others) s ≡ beyond users rights s
  unfolding among_sets beyond
  lacking_is s =
      any_ext 64 _ _ (λ x l.
      let here = bit (get_or users x 0) s in
      ap (λ (b : Bool). b && here)
      (bit_and_lem used others x
      ∙ ap₂ ◌&&◌ (ap (λ (n : ℕ). bit n x) known ∙ bit_mask_below 64 (λ x. not (eqb (get_or users x 0) 0)) x l) (outside x l))
      ∙ unneeded (not (eqb (get_or users x 0) 0)) (not (bit rights x)) here (some_used (get_or users x 0) s))

  pub holds_is : (joined persons : ℕ) → ((s : ℕ) → bit joined s ≡ among_sets users (bit_and used others) s)
      → ((k : ℕ) → k < 64 → bit persons k ≡ not (bit joined k)) → Holds users rights persons
  holds_is joined persons found rest s l = rest s l ∙ ap not (found s ∙ lacking_is s)

-- ---- rows

module _ (P : ℕ → ℕ → Type 0) where
  pub rows_none : Rows 0 P (replicate 64 0)
  rows_none =
      record {
        size = length-replicate {A = ℕ} 64 0;
        at = λ k l. let z : ⊥ = omega arith in absurd z;
        none = λ k l. zeros_at 64 k;
      }

  pub rows_more : (n : ℕ) (rows : List ℕ) {v : ℕ} → Rows n P rows → n < 64 → P n v → Rows (n + 1) P (set rows n v)
  rows_more n rows {v} before room p =
      record {
        size = length-set rows n v ∙ before.size;
        at = λ k l. ⊎_elim (last k) (λ b. earlier k b) (eq-or-lt_of_le (omega arith));
        none = λ k l. get_or-set_other rows n k v 0 (λ e. let z : ⊥ = omega (arith, e) in z) ∙ before.none k (omega arith);
      }
    where
      within : n < length rows
      within = rw before.size room

      last : (k : ℕ) → k ≡ n → P k (get_or (set rows n v) k 0)
      last k e = rw (e, get_or-set_same rows n v 0 within) p

      earlier : (k : ℕ) → k < n → P k (get_or (set rows n v) k 0)
      earlier k l = rw (get_or-set_other rows n k v 0 (λ e. let z : ⊥ = omega (arith, e) in z)) (before.at k l)

pub rows_ext : (n : ℕ) {P Q : ℕ → ℕ → Type 0} {rows : List ℕ} → Rows n P rows → ((k v : ℕ) → k < n → P k v → Q k v) → Rows n Q rows
rows_ext n found says = record { size = found.size; at = λ k l. says k _ l (found.at k l); none = found.none }

-- ---- a set of 64 of which only the first 32 can be members

pub narrow : (p q : ℕ → Bool) → ((k : ℕ) → k < 32 → p k ≡ q k) → ((k : ℕ) → 32 ≤ k → p k ≡ false)
    → mask_below 64 p ≡ mask_below 32 q
narrow p q same none =
    bits_ext 64 _ _ (mask_lt 64 p) (lt_of_lt_of_le (mask_lt 32 q) (pow_mono {i = 32} {j = 64} (omega arith))) (λ k l.
    bit_mask_below 64 p k l ∙ ⊎_elim (λ y. below k (ltb-true k 32 y)) (λ n. above k (ltb-false k 32 n)) (decide (ltb k 32)))
  where
    below : (k : ℕ) → k < 32 → p k ≡ bit (mask_below 32 q) k
    below k l = same k l ∙ sym (bit_mask_below 32 q k l)

    above : (k : ℕ) → 32 ≤ k → p k ≡ bit (mask_below 32 q) k
    above k l = none k l ∙ sym (bit_mask 32 q k ∙ ap (λ (b : Bool). b && q k) (le-ltb k 32 l))

-- ---- holding all that was used

-- rights cover a set exactly where no member of it is beyond them
pub covers_is : (rights : ℕ) (u : ℕ → Bool) → covers rights (mask_below 64 u) ≡ not (any_below 64 (λ x. not (bit rights x) && u x))
unfolding covers
covers_is rights u =
    ⊎_elim
    (λ y.
    let (x, l, w) = any_some 64 (λ x. not (bit rights x) && u x) y in
    let member : bit (mask_below 64 u) x ≡ true = bit_mask_below 64 u x l ∙ and_right (not (bit rights x)) _ w in
    ne_eqb _ _ (λ e.
    false_elim (bit rights x) (not-true _ (and_left (not (bit rights x)) _ w)) (subset_bit (mask_below 64 u) rights x e member))
    ∙ sym (ap not y))
    (λ n.
    eq-eqb _ _
    (bit_subset 64 (mask_below 64 u) rights (mask_lt 64 u) (λ x l b.
    ⊎_elim (λ y. y)
    (λ f.
    absurd
    (false_elim (any_below 64 (λ x. not (bit rights x) && u x)) n
    (some_any 64 (λ x. not (bit rights x) && u x) x l (and_both _ _ (ap not f) (sym (bit_mask_below 64 u x l) ∙ b)))))
    (decide (bit rights x))))
    ∙ sym (ap not n))
    (decide (any_below 64 (λ x. not (bit rights x) && u x)))
