-- A stage takes each bit from one row and one column, and six stages take bit j of row i from row j and column i. That each width's mask
-- has the columns it should, and where a bit comes from after all stages, is computed for every row and column.
use Prim.Native.Nat.{ℕ, ◌+◌, ◌-◌, ◌*◌, ◌/◌, ◌%◌, ◌^◌, ◌<◌}
use native.Mathlib.Nat.{mul_comm, one-mul, mod-lt, lt_of_le_of_lt, lt_of_lt_of_le}
use native.Mathlib.Omega.{arith}
use mathlib.Core.Path.{◌≡◌, refl, sym, ap, ap₂, ◌∙◌}
use mathlib.Core.Logic.{◌⊎◌, inl, inr, ⊎_elim}
use mathlib.Core.Bool.{Bool, true, false, cond, not, ◌&&◌, ◌||◌, and-true, and-false, false≢true}
use mathlib.Core.List.{List, [], ◌∷◌}
use lib.Bits.{bit_and, bit_or, and_le_r, or_lt}
use lib.Dec.{eqb, ltb, leb, lit<}
use lib.ListN.{get_or}
use lib.Pow.{pow_mono, pow_pos, shl_exact, shr-shr}
use borrow.Author.Tests.{ltb-true, le-ltb, leb-true, eqb-true}
use Rattle.bits.specs.Bits.{bit}
use Rattle.bits.specs.Bounded.{all_below}
use Rattle.bits.proofs.BitLaws.{bit_and_lem, bit_or_lem, bit_zero, bit_above, digit}
use Rattle.bits.proofs.Booleans.{and_left, and_right, decide}
use Rattle.bits.proofs.Bounds.{all_at}
use Rattle.bits.proofs.Masks.{mask_lt, mask_of_bits, mask_ext, bit_mask_below}
use Rattle.recorded.specs.Gathering.{FirstAre}
use Rattle.grouping.specs.Turning.{IsStage, low_columns, merged, has_evens, evens, row_from, column_from, stage_row, turned_row}

-- ---- merging two rows

bit_shifted_up : (n w k : ℕ) → bit (n * 2 ^ w) k ≡ cond (ltb k w) false (bit n (k - w))
bit_shifted_up n w k =
    let e : n * 2 ^ w ≡ 0 + 2 ^ w * n = mul_comm n (2 ^ w) ∙ omega arith in
    ap (λ (m : ℕ). bit m k) e ∙ bit_above w 0 n k (pow_pos w) ∙ ap (λ (b : Bool). cond (ltb k w) b (bit n (k - w))) (bit_zero k)

bit_shifted_down : (n w k : ℕ) → bit (n / 2 ^ w) k ≡ bit n (w + k)
unfolding bit
bit_shifted_down n w k = ap (λ (x : ℕ). eqb (x % 2) 1) (shr-shr n w k)

-- what is left of two bits under the mask, at a column whose digit is 0, and at one whose digit is 1
first_alone : (a l t b m : Bool) → l && (t || not m) ≡ true → (a && l) || cond t false (b && m) ≡ a
first_alone a false t b m h = absurd (false≢true h)
first_alone true true t b m h = refl
first_alone false true true b m h = refl
first_alone false true false b true h = absurd (false≢true h)
first_alone false true false b false h = and-false b

second_alone : (a l t b m g : Bool) → not l && g && m ≡ true → t ≡ false → (a && l) || cond t false (b && m) ≡ b
second_alone a true t b m g h e = absurd (false≢true h)
second_alone a false true b m g h e = absurd (false≢true (sym e))
second_alone a false false b m false h e = absurd (false≢true h)
second_alone a false false b false true h e = absurd (false≢true h)
second_alone true false false b true true h e = and-true b
second_alone false false false b true true h e = and-true b

module _ (w low x y : ℕ) (narrow : w < 64) (ok : evens w low ≡ true) where
  low_lt : low < 2 ^ (64 - w)
  unfolding evens
  low_lt = ltb-true _ _ (and_left (ltb low (2 ^ (64 - w))) _ ok)

  merged_even : (j : ℕ) → eqb (j / w % 2) 0 ≡ true → has_evens w low j ≡ true
      → (bit x j && bit low j) || cond (ltb j w) false (bit y (j - w) && bit low (j - w)) ≡ bit x j
  unfolding has_evens
  merged_even j d has = first_alone (bit x j) (bit low j) (ltb j w) (bit y (j - w)) (bit low (j - w)) (rw d at has)

  merged_odd : (j : ℕ) → eqb (j / w % 2) 0 ≡ false → has_evens w low j ≡ true
      → (bit x j && bit low j) || cond (ltb j w) false (bit y (j - w) && bit low (j - w)) ≡ bit y (j - w)
  unfolding has_evens
  merged_odd j d has =
      let h : not (bit low j) && leb w j && bit low (j - w) ≡ true = rw d at has in
      let far = leb-true w j (and_right (not (bit low j)) _ (and_left (not (bit low j) && leb w j) _ h)) in
      second_alone (bit x j) (bit low j) (ltb j w) (bit y (j - w)) (bit low (j - w)) (leb w j) h (le-ltb j w far)

  merged_bit : (j : ℕ) → j < 64
      → (bit x j && bit low j) || cond (ltb j w) false (bit y (j - w) && bit low (j - w))
      ≡ cond (eqb (j / w % 2) 0) (bit x j) (bit y (j - w))
  unfolding evens
  merged_bit j l =
      let has = all_at 64 (has_evens w low) (and_right (ltb low (2 ^ (64 - w))) _ ok) j l in
      ⊎_elim (λ d. merged_even j d has ∙ rw d) (λ d. merged_odd j d has ∙ rw d) (decide (eqb (j / w % 2) 0))

  merge_is : bit_or (bit_and x low) ((bit_and y low * 2 ^ w) % 2 ^ 64) ≡ merged w x y
  unfolding merged
  merge_is =
      let up : (bit_and y low * 2 ^ w) % 2 ^ 64 ≡ bit_and y low * 2 ^ w =
      shl_exact (64 - w) w 64 (lt_of_le_of_lt (and_le_r y low) low_lt) (omega arith) in
      let first : bit_and x low < 2 ^ 64 =
      lt_of_le_of_lt (and_le_r x low) (lt_of_lt_of_le low_lt (pow_mono {j = 64} (omega arith))) in
      mask_of_bits 64 _ _ (or_lt 64 _ _ first (mod-lt _ (pow_pos 64))) (λ j l.
      bit_or_lem (bit_and x low) _ j
      ∙ ap₂ ◌||◌ (bit_and_lem x low j)
      (ap (λ (n : ℕ). bit n j) up ∙ bit_shifted_up (bit_and y low) w j
      ∙ ap (λ (b : Bool). cond (ltb j w) false b) (bit_and_lem y low (j - w)))
      ∙ merged_bit j l)

-- the same, with the mask as the code finds it
pub merge_by : (w x y : ℕ) → IsStage w
    → (let low = 18446744073709551615 / ((1 * 2 ^ w) % 2 ^ 64 + 1) in bit_or (bit_and x low) ((bit_and y low * 2 ^ w) % 2 ^ 64))
    ≡ merged w x y
merge_by w x y ok =
    let power : (1 * 2 ^ w) % 2 ^ 64 ≡ 2 ^ w = shl_exact 1 w 64 (lit< tt) (omega arith) ∙ one-mul (2 ^ w) in
    ap (λ (n : ℕ). let low = 18446744073709551615 / (n + 1) in bit_or (bit_and x low) ((bit_and y low * 2 ^ w) % 2 ^ 64)) power
    ∙ merge_is w (low_columns w) x y (omega arith) ok.columns

-- ---- the two rows that a stage makes of two

module _ (w : ℕ) (rows : List ℕ) (i : ℕ) where
  even_bit : (j d : ℕ) → (d ≡ 0) ⊎ (d ≡ 1)
      → cond (eqb d 0) (bit (get_or rows i 0) j) (bit (get_or rows (32 + i) 0) (j - w))
      ≡ bit (get_or rows (2 * i / 2 + 32 * d) 0) (w * (2 * i % 2) + (j - w * d))
  even_bit j d (inl e) =
      let row : i ≡ 2 * i / 2 + 32 * 0 = omega arith in
      let even : 2 * i % 2 ≡ 0 = omega arith in
      let column : j ≡ w * 0 + (j - w * 0) = omega arith in
      rw (e, even) (ap₂ (λ (r c : ℕ). bit (get_or rows r 0) c) row column)
  even_bit j d (inr e) =
      let row : 32 + i ≡ 2 * i / 2 + 32 * 1 = omega arith in
      let even : 2 * i % 2 ≡ 0 = omega arith in
      let column : j - w ≡ w * 0 + (j - w * 1) = omega arith in
      rw (e, even) (ap₂ (λ (r c : ℕ). bit (get_or rows r 0) c) row column)

  odd_bit : (j d : ℕ) → (d ≡ 0) ⊎ (d ≡ 1)
      → cond (eqb d 0) (bit (get_or rows i 0 / 2 ^ w) j) (bit (get_or rows (32 + i) 0 / 2 ^ w) (j - w))
      ≡ bit (get_or rows ((2 * i + 1) / 2 + 32 * d) 0) (w * ((2 * i + 1) % 2) + (j - w * d))
  odd_bit j d (inl e) =
      let row : i ≡ (2 * i + 1) / 2 + 32 * 0 = omega arith in
      let odd : (2 * i + 1) % 2 ≡ 1 = omega arith in
      let column : w + j ≡ w * 1 + (j - w * 0) = omega arith in
      rw (e, odd) (bit_shifted_down (get_or rows i 0) w j ∙ ap₂ (λ (r c : ℕ). bit (get_or rows r 0) c) row column)
  odd_bit j d (inr e) =
      let row : 32 + i ≡ (2 * i + 1) / 2 + 32 * 1 = omega arith in
      let odd : (2 * i + 1) % 2 ≡ 1 = omega arith in
      let column : w + (j - w) ≡ w * 1 + (j - w * 1) = omega arith in
      rw (e, odd) (bit_shifted_down (get_or rows (32 + i) 0) w (j - w) ∙ ap₂ (λ (r c : ℕ). bit (get_or rows r 0) c) row column)

  pub even_row : {a b x : ℕ} → a ≡ get_or rows i 0 → b ≡ get_or rows (32 + i) 0 → x ≡ merged w a b → x ≡ stage_row w rows (2 * i)
  unfolding merged stage_row row_from column_from
  even_row {a} {b} ea eb e =
      e ∙ rw (ea, eb) (mask_ext 64 _ _ (λ j l. even_bit j (j / w % 2) (digit (j / w % 2) (omega arith))))

  pub odd_row : {a b x : ℕ} → a ≡ get_or rows i 0 / 2 ^ w → b ≡ get_or rows (32 + i) 0 / 2 ^ w → x ≡ merged w a b
      → x ≡ stage_row w rows (2 * i + 1)
  unfolding merged stage_row row_from column_from
  odd_row {a} {b} ea eb e =
      e ∙ rw (ea, eb) (mask_ext 64 _ _ (λ j l. odd_bit j (j / w % 2) (digit (j / w % 2) (omega arith))))

-- ---- the six stages

-- the rows after stages of some widths, the last width first
pub data Stages (a : List ℕ) : List ℕ → List ℕ → Type 0 where
  start : Stages a [] a
  more : {w : ℕ} {widths b c : List ℕ} → FirstAre 64 64 (stage_row w b) c → Stages a widths b → Stages a (w ∷ widths) c

-- the bit of row i and column j comes from row j₀ and column i₀
unfoldable arrives : List ℕ → ℕ → ℕ → ℕ → ℕ → Bool
arrives [] i₀ j₀ i j = eqb i j₀ && eqb j i₀
arrives (w ∷ widths) i₀ j₀ i j = ltb i 64 && ltb j 64 && arrives widths i₀ j₀ (row_from w i j) (column_from w i j)

came : {a b : List ℕ} {widths : List ℕ} → Stages a widths b → (i₀ j₀ i j : ℕ) → arrives widths i₀ j₀ i j ≡ true
    → bit (get_or b i 0) j ≡ bit (get_or a j₀ 0) i₀
unfolding arrives stage_row
came {a} start i₀ j₀ i j e =
    ap₂ (λ (r c : ℕ). bit (get_or a r 0) c) (eqb-true i j₀ (and_left (eqb i j₀) _ e)) (eqb-true j i₀ (and_right (eqb i j₀) _ e))
came (more {w} {widths} {b} {c} made before) i₀ j₀ i j e =
    let inside = and_left (ltb i 64 && ltb j 64) _ e in
    let row = ltb-true i 64 (and_left (ltb i 64) _ inside) in
    let column = ltb-true j 64 (and_right (ltb i 64) _ inside) in
    ap (λ (n : ℕ). bit n j) (made.each i row)
    ∙ bit_mask_below 64 (λ j. bit (get_or b (row_from w i j) 0) (column_from w i j)) j column
    ∙ came before i₀ j₀ (row_from w i j) (column_from w i j) (and_right (ltb i 64 && ltb j 64) _ e)

abbrev widths : List ℕ
widths = 1 ∷ 2 ∷ 4 ∷ 8 ∷ 16 ∷ 32 ∷ []

all_arrive : all_below 64 (λ i. all_below 64 (λ j. arrives widths i j i j)) ≡ true
unfolding all_below arrives row_from column_from
all_arrive = refl

pub turned_all : {a b : List ℕ} → Stages a widths b → FirstAre 64 64 (turned_row a) b
unfolding turned_row stage_row
turned_all {a} {b} (more last before) =
    record {
      size = last.size;
      each = λ i l.
          mask_of_bits 64 (get_or b i 0) _ (rw (last.each i l) (mask_lt 64 _)) (λ j m.
          came (more last before) i j i j
          (all_at 64 (λ j. arrives widths i j i j) (all_at 64 (λ i. all_below 64 (λ j. arrives widths i j i j)) all_arrive i l) j m));
    }

-- ---- the masks of the six widths

pub stage_32 : IsStage 32
unfolding evens has_evens all_below bit
stage_32 = record { narrow = lit< tt; columns = refl }

pub stage_16 : IsStage 16
unfolding evens has_evens all_below bit
stage_16 = record { narrow = lit< tt; columns = refl }

pub stage_8 : IsStage 8
unfolding evens has_evens all_below bit
stage_8 = record { narrow = lit< tt; columns = refl }

pub stage_4 : IsStage 4
unfolding evens has_evens all_below bit
stage_4 = record { narrow = lit< tt; columns = refl }

pub stage_2 : IsStage 2
unfolding evens has_evens all_below bit
stage_2 = record { narrow = lit< tt; columns = refl }

pub stage_1 : IsStage 1
unfolding evens has_evens all_below bit
stage_1 = record { narrow = lit< tt; columns = refl }
