-- The row of each kind gives the numbers of its requests: a mask of a power of two less one takes a number modulo that power, so a number
-- in range is itself, and one that is not leaves a rest. Each law is seen of the four kinds.
use Prim.Native.Nat.{ℕ, ◌+◌, ◌*◌, ◌-◌, ◌/◌, ◌%◌, ◌≤◌, ◌<◌}
use native.Mathlib.Nat.{eq-or-lt_of_le, mod-lt, mul-le-mul_left, mul-le-mul_right, le_trans}
use native.Mathlib.Omega.{arith}
use mathlib.Core.Path.{◌≡◌, refl, ap, ◌∙◌}
use mathlib.Core.Logic.{⊎_elim}
use mathlib.Core.Bool.{Bool, true, false, cond, not, ◌&&◌}
use mathlib.Core.Option.{some}
use lib.Dec.{eqb, leb, ltb}
use lib.Bits.{bit_and, and_mask, mask_lt, and_zero_r}
use lib.ListN.{get_or}
use borrow.Author.Tests.{eqb-true, eq-eqb, lt-ltb, ltb-true, leb-true}
use Rattle.bits.specs.Bounded.{all_below}
use Rattle.bits.proofs.Booleans.{and_left, and_right, and_both, bool_ext, false_elim}
use Rattle.bits.proofs.Bounds.{all_at}
use Rattle.policy.specs.Request.{read, write, start, step, subject, index, has_place}
use Rattle.policy.specs.declared.Tables.{Tables}
use Rattle.policy.specs.Tables.{folder_at}
use Rattle.policy.specs.Rules.{right}
use Rattle.policy.specs.OneMore.{folder_of, step_of}
use Rattle.request.specs.Parsed.{request_for}
use Rattle.branchfree.specs.Kinds.{
  kind_rows,
  row_of,
  placed_by,
  right_by,
  asked_by,
  place_of,
  target_of,
  asks_level,
  lowers,
  is_access,
  is_step,
  PlacedAs,
  RowOf,
}

-- ---- the four kinds

pub by_kind : (P : ℕ → Type 0) → P 16 → P 17 → P 18 → P 19 → (k : ℕ) → 15 < k → k < 20 → P k
by_kind P a b c d k low high =
    ⊎_elim (λ e. rw (← e) a)
    (λ l.
    ⊎_elim (λ e. rw (← e) b)
    (λ m. ⊎_elim (λ e. rw (← e) c) (λ n. let e : k ≡ 19 = omega arith in rw e d) (eq-or-lt_of_le m))
    (eq-or-lt_of_le l))
    (eq-or-lt_of_le low)

pub asked_is : (kind s o p : ℕ) → 15 < kind → kind < 20 → request_for kind s o p ≡ some (asked_by kind s o p)
unfolding request_for asked_by
asked_is kind s o p low high =
    by_kind (λ (k : ℕ). request_for k s o p ≡ some (asked_by k s o p)) refl refl refl refl kind low high

-- a column of the rows is at most a number
row_most : (j b : ℕ) → all_below 4 (λ i. leb (get_or kind_rows (16 * i + j) 0) b) ≡ true → (kind : ℕ) → row_of kind j ≤ b
unfolding row_of
row_most j b all kind = leb-true _ _ (all_at 4 (λ i. leb (get_or kind_rows (16 * i + j) 0) b) all (kind % 4) (mod-lt kind (omega arith)))

pub first_most : (kind : ℕ) → row_of kind 0 ≤ 20480
unfolding kind_rows all_below
first_most = row_most 0 20480 refl

pub by_person_most : (kind : ℕ) → row_of kind 1 ≤ 128
unfolding kind_rows all_below
by_person_most = row_most 1 128 refl

pub by_place_most : (kind : ℕ) → row_of kind 2 ≤ 1024
unfolding kind_rows all_below
by_place_most = row_most 2 1024 refl

pub first_set_most : (kind : ℕ) → row_of kind 10 ≤ 64
unfolding kind_rows all_below
first_set_most = row_most 10 64 refl

pub product_most : (a b x y : ℕ) → a ≤ x → b ≤ y → a * b ≤ x * y
product_most a b x y l m = le_trans (mul-le-mul_right b l) (mul-le-mul_left x m)

-- ---- placing

other_way : (b : Bool) → ◌≡◌ {A = ℕ} (cond (not b) 1 0) (cond b 0 1)
other_way true = refl
other_way false = refl

rests : (s a o b h : ℕ) (inside : Bool) → (s ≡ a → o ≡ b → h ≡ 0 → inside ≡ true) → a ≤ s → b ≤ o
    → (inside ≡ true → (s ≡ a) × (o ≡ b) × (h ≡ 0)) → ◌≡◌ {A = ℕ} (cond (not (eqb ((s - a) + (o - b) + h) 0)) 1 0) (cond inside 0 1)
rests s a o b h inside all l m each =
    ap (λ (t : Bool). cond {A = ℕ} (not t) 1 0)
    (bool_ext (eqb ((s - a) + (o - b) + h) 0) inside
    (λ e.
    let z : (s - a) + (o - b) + h ≡ 0 = eqb-true _ 0 e in
    all (omega arith) (omega arith) (omega arith))
    (λ e. let (x, y, z) = each e in eq-eqb ((s - a) + (o - b) + h) 0 (omega (arith, x, y, z))))
    ∙ other_way inside

placed_folder : (s o : ℕ) → has_place (read s o) ≡ true → (s < 64) × (o < 128)
unfolding has_place
placed_folder s o e = (ltb-true s 64 (and_left (ltb s 64) (ltb o 128) e), ltb-true o 128 (and_right (ltb s 64) (ltb o 128) e))

-- an access, of either kind: the rows of reads and writes differ in the index of the first bit alone
placed_read : (s o p : ℕ) → PlacedAs (read s o) (placed_by 16 s o p)
unfolding placed_by row_of kind_rows has_place subject place_of step_of target_of index
placed_read s o p =
    let a : bit_and s 63 ≡ s % 64 = and_mask s 6 in
    let b : bit_and o 127 ≡ o % 128 = and_mask o 7 in
    let z = and_zero_r p in
    let y = and_zero_r (p / 16) in
    record {
      person_below = omega arith;
      place_below = omega arith;
      step_below = omega arith;
      set_below = omega arith;
      index_below = omega arith;
      outside =
          rests s _ o _ _ _ (λ e f g. and_both _ _ (lt-ltb s 64 (omega arith)) (lt-ltb o 128 (omega arith))) (omega arith) (omega arith)
          (λ e. let (l, m) = placed_folder s o e in (omega arith, omega arith, y));
      exact =
          λ e.
          let (l, m) = placed_folder s o e in
          record { person = omega arith; place = omega arith; step = z; set = omega arith; index = omega arith };
    }

placed_write : (s o p : ℕ) → PlacedAs (write s o) (placed_by 17 s o p)
unfolding placed_by row_of kind_rows has_place subject place_of step_of target_of index
placed_write s o p =
    let at = placed_read s o p in
    let a : bit_and s 63 ≡ s % 64 = and_mask s 6 in
    let b : bit_and o 127 ≡ o % 128 = and_mask o 7 in
    let z = and_zero_r p in
    record {
      person_below = at.person_below;
      place_below = at.place_below;
      step_below = at.step_below;
      set_below = at.set_below;
      index_below = omega arith;
      outside = at.outside;
      exact =
          λ e.
          let is = at.exact e in
          let (l, m) = placed_folder s o e in
          record { person = is.person; place = is.place; step = is.step; set = is.set; index = omega arith };
    }

placed_start : (s u p : ℕ) → PlacedAs (start s u) (placed_by 18 s u p)
unfolding placed_by row_of kind_rows has_place subject place_of step_of target_of index
placed_start s u p =
    let a : bit_and s 63 ≡ s % 64 = and_mask s 6 in
    let b : bit_and u 63 ≡ u % 64 = and_mask u 6 in
    let z = and_zero_r p in
    let y = and_zero_r (p / 16) in
    record {
      person_below = omega arith;
      place_below = omega arith;
      step_below = omega arith;
      set_below = omega arith;
      index_below = omega arith;
      outside =
          rests s _ u _ _ _ (λ e f g. and_both _ _ (lt-ltb s 64 (omega arith)) (lt-ltb u 64 (omega arith))) (omega arith) (omega arith)
          (λ e.
          let l = ltb-true s 64 (and_left (ltb s 64) (ltb u 64) e) in
          let m = ltb-true u 64 (and_right (ltb s 64) (ltb u 64) e) in
          (omega arith, omega arith, y));
      exact =
          λ e.
          let l = ltb-true s 64 (and_left (ltb s 64) (ltb u 64) e) in
          let m = ltb-true u 64 (and_right (ltb s 64) (ltb u 64) e) in
          record { person = omega arith; place = omega arith; step = z; set = omega arith; index = omega arith };
    }

placed_numbers : (s p o : ℕ) → has_place (step s p o) ≡ true → (s < 64) × (p < 16) × (o < 128)
unfolding has_place
placed_numbers s p o e =
    let both = and_left (ltb s 64 && ltb p 16) (ltb o 128) e in (
      ltb-true s 64 (and_left (ltb s 64) (ltb p 16) both),
      ltb-true p 16 (and_right (ltb s 64) (ltb p 16) both),
      ltb-true o 128 (and_right (ltb s 64 && ltb p 16) (ltb o 128) e),
    )

placed_step : (s o p : ℕ) → p < 256 → PlacedAs (step s p o) (placed_by 19 s o p)
unfolding placed_by row_of kind_rows has_place subject place_of step_of target_of index
placed_step s o p small =
    let a : bit_and s 63 ≡ s % 64 = and_mask s 6 in
    let b : bit_and o 127 ≡ o % 128 = and_mask o 7 in
    let d : bit_and p 15 ≡ p % 16 = and_mask p 4 in
    let y : bit_and (p / 16) 15 ≡ p / 16 % 16 = and_mask (p / 16) 4 in
    record {
      person_below = omega arith;
      place_below = omega arith;
      step_below = omega arith;
      set_below = omega arith;
      index_below = omega arith;
      outside =
          rests s _ o _ _ _
          (λ e f g.
          and_both _ _ (and_both _ _ (lt-ltb s 64 (omega arith)) (lt-ltb p 16 (omega arith))) (lt-ltb o 128 (omega arith)))
          (omega arith) (omega arith)
          (λ e. let (l, n, m) = placed_numbers s p o e in (omega arith, omega arith, omega arith));
      exact =
          λ e.
          let (l, n, m) = placed_numbers s p o e in
          record { person = omega arith; place = omega arith; step = omega arith; set = omega arith; index = omega arith };
    }

pub placed_as : (kind s o p : ℕ) → 15 < kind → kind < 20 → p < 256 → PlacedAs (asked_by kind s o p) (placed_by kind s o p)
unfolding asked_by
placed_as kind s o p low high small =
    by_kind (λ (k : ℕ). PlacedAs (asked_by k s o p) (placed_by k s o p)) (placed_read s o p) (placed_write s o p) (placed_start s o p)
    (placed_step s o p small) kind low high

-- ---- rows

pub row_of_lem : (kind s o p : ℕ) → 15 < kind → kind < 20 → RowOf (asked_by kind s o p) kind
unfolding asked_by row_of kind_rows asks_level lowers is_access is_step
row_of_lem kind s o p low high =
    by_kind (λ (k : ℕ). RowOf (asked_by k s o p) k) (record { asks = refl; low = refl; access = refl; step = refl })
    (record { asks = refl; low = refl; access = refl; step = refl })
    (record { asks = refl; low = refl; access = refl; step = refl })
    (record { asks = refl; low = refl; access = refl; step = refl }) kind low high

-- ---- rights

pub right_small : (kind f p : ℕ) → 15 < kind → kind < 20 → p < 16 → right_by kind f p < 64
unfolding right_by row_of kind_rows
right_small kind f p low high small =
    let z = and_zero_r f in
    let a = mask_lt f 4 in
    by_kind (λ (k : ℕ). right_by k f p < 64) (omega arith) (omega arith) (omega arith) (omega arith) kind low high

-- the right of a request that is in range, on a folder of one of 16 kinds
pub right_is : (t : Tables) (kind s o p f : ℕ) → 15 < kind → kind < 20 → has_place (asked_by kind s o p) ≡ true
    → (is_access (asked_by kind s o p) ≡ true → (f ≡ (folder_at t (folder_of (asked_by kind s o p))).kind) × (f < 16))
    → right_by kind f (placed_by kind s o p).step ≡ right t (asked_by kind s o p)
unfolding right_by placed_by row_of kind_rows asked_by is_access folder_of right has_place
right_is t kind s o p f low high =
    let z = and_zero_r p in
    let y = and_zero_r f in
    let a : bit_and f 15 ≡ f % 16 = and_mask f 4 in
    let b : bit_and p 15 ≡ p % 16 = and_mask p 4 in
    by_kind
    (λ (k : ℕ).
    has_place (asked_by k s o p) ≡ true
    → (is_access (asked_by k s o p) ≡ true → (f ≡ (folder_at t (folder_of (asked_by k s o p))).kind) × (f < 16))
    → right_by k f (placed_by k s o p).step ≡ right t (asked_by k s o p))
    (λ place of. let (e, l) = of refl in let m : bit_and f 15 ≡ f = omega arith in omega (arith, m, e))
    (λ place of. let (e, l) = of refl in let m : bit_and f 15 ≡ f = omega arith in omega (arith, m, e))
    (λ place of. omega arith)
    (λ place of.
    let (l, n, m) = placed_numbers s p o place in omega arith)
    kind low high

-- the folder of an access is its target
pub folder_number : (kind s o p : ℕ) → is_access (asked_by kind s o p) ≡ true → o ≡ folder_of (asked_by kind s o p)
unfolding asked_by is_access folder_of
folder_number kind s o p = go (eqb kind 16) (eqb kind 17) (eqb kind 18)
  where
    go : (a b c : Bool)
        → is_access (cond a (read s o) (cond b (write s o) (cond c (start s o) (step s p o)))) ≡ true
        → o ≡ folder_of (cond a (read s o) (cond b (write s o) (cond c (start s o) (step s p o))))
    go true b c e = refl
    go false true c e = refl
    go false false true e = absurd (false_elim false refl e)
    go false false false e = refl
