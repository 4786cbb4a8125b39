-- The record at the front of some bytes where it is whole: its kind is one of the four, its bytes are there, and the next record stands
-- behind it. A record of any other kind, or with fewer bytes, is none.
use Prim.Native.Nat.{ℕ, ◌+◌, ◌≤◌, ◌<◌}
use native.Mathlib.Nat.{eq-or-lt_of_le}
use native.Mathlib.Omega.{arith}
use mathlib.Core.Path.{◌≡◌, refl, ◌∙◌}
use mathlib.Core.Logic.{⊎_elim}
use mathlib.Core.Bool.{Bool, true, false, cond}
use mathlib.Core.List.{List}
use mathlib.Core.Option.{Option, none, some}
use lib.Dec.{eqb, ltb}
use lib.ListN.{length, get_or}
use borrow.Author.Tests.{eq-eqb, ne_eqb, ltb-true, ltb-false}
use Rattle.bits.proofs.Booleans.{decide}
use Rattle.policy.specs.Request.{Request, read, write, start, step, request_of, record_length}
use Rattle.request.specs.Parsed.{access_by, request_for, next_after, next_record, length_of, whole_length}
use Rattle.request.proofs.RequestLaws.{
  too_short,
  is_access_lem,
  is_start,
  is_step_lem,
  is_unknown,
  cut_step,
  whole_step,
  short_fields,
  long_fields,
}

-- ---- the length of a record, by its kind

access_length : (writes : Bool) (s o : ℕ) → record_length (access_by writes s o) ≡ 3
unfolding access_by record_length
access_length true s o = refl
access_length false s o = refl

module _ (l : List ℕ) where
  pub none_whole : request_of l ≡ none → whole_length l ≡ 0
  unfolding whole_length length_of
  none_whole e = rw e

  some_whole : (r : Request) (n : ℕ) → request_of l ≡ some r → record_length r ≡ n → whole_length l ≡ n
  unfolding whole_length length_of
  some_whole r n e m = rw e m

  pub three_whole : 3 ≤ length l → 16 ≤ get_or l 0 0 → get_or l 0 0 ≤ 18 → whole_length l ≡ 3
  unfolding record_length
  three_whole long low high =
      ⊎_elim
      (λ e. some_whole (start (get_or l 1 0) (get_or l 2 0)) 3 (is_start l long e) refl)
      (λ below. some_whole _ 3 (is_access_lem l long low (omega arith)) (access_length _ _ _))
      (eq-or-lt_of_le high)

  pub step_whole : 4 ≤ length l → get_or l 0 0 ≡ 19 → whole_length l ≡ 4
  unfolding record_length
  step_whole long e = some_whole (step (get_or l 1 0) (get_or l 2 0) (get_or l 3 0)) 4 (is_step_lem l (omega arith) e ∙ whole_step l long) refl

  -- four bytes hold a record of each known kind
  pub four_whole : 4 ≤ length l → 16 ≤ get_or l 0 0 → get_or l 0 0 ≤ 19 → 0 < whole_length l
  four_whole long low high =
      ⊎_elim
      (λ k. omega (arith, step_whole long k))
      (λ below. omega (arith, three_whole (omega arith) low (omega arith)))
      (eq-or-lt_of_le high)

  module _ (more : ℕ) (is : more ≡ cond (eqb (get_or l 0 0) 19) 1 0) where
    more_step : get_or l 0 0 ≡ 19 → more ≡ 1
    more_step k = is ∙ rw (eq-eqb (get_or l 0 0) 19 k)

    more_other : (get_or l 0 0 ≡ 19 → ⊥) → more ≡ 0
    more_other k = is ∙ rw (ne_eqb (get_or l 0 0) 19 k)

    known_whole : 16 ≤ get_or l 0 0 → get_or l 0 0 ≤ 19 → 3 + more ≤ length l → whole_length l ≡ 3 + more
    known_whole low high there =
        ⊎_elim
        (λ k. let m = more_step k in step_whole (omega arith) k ∙ rw m)
        (λ below. let m = more_other (λ k. omega arith) in three_whole (omega arith) low (omega arith) ∙ rw m)
        (eq-or-lt_of_le high)

-- ---- the next record

after_whole : (r : Option Request) (left : ℕ) → 0 < length_of r → next_after r left ≡ length_of r
unfolding next_after length_of
after_whole none left l = absurd (omega arith)
after_whole (some r) left l = refl

-- behind a whole record stands the next
pub next_whole : (l : List ℕ) → 0 < whole_length l → next_record l ≡ whole_length l
unfolding next_record whole_length
next_whole l whole = after_whole (request_of l) (length l) whole

after_none : (r : Option Request) (left : ℕ) → length_of r ≡ 0 → next_after r left ≡ left
unfolding next_after length_of record_length
after_none none left e = refl
after_none (some (read s o)) left e = absurd (omega arith)
after_none (some (write s o)) left e = absurd (omega arith)
after_none (some (start s u)) left e = absurd (omega arith)
after_none (some (step s p o)) left e = absurd (omega arith)

-- an unknown or cut record is the last
pub next_none : (l : List ℕ) → whole_length l ≡ 0 → next_record l ≡ length l
unfolding next_record whole_length
next_none l e = after_none (request_of l) (length l) e

-- the next record after one of a known kind, all of whose bytes are there
pub next_known : (l : List ℕ) (more : ℕ) → more ≡ cond (eqb (get_or l 0 0) 19) 1 0 → 16 ≤ get_or l 0 0 → get_or l 0 0 ≤ 19
    → 3 + more ≤ length l → next_record l ≡ 3 + more
next_known l more is low high there =
    let whole = known_whole l more is low high there in next_whole l (omega (arith, whole)) ∙ whole

-- ---- what a whole record has

module _ (l : List ℕ) (whole : 0 < whole_length l) where
  not_none : request_of l ≡ none → ⊥
  not_none e = omega (arith, whole, none_whole l e)

  pub whole_long : 3 ≤ length l
  whole_long =
      ⊎_elim (λ short. absurd (not_none (too_short l (ltb-true _ _ short)))) (λ long. ltb-false _ _ long) (decide (ltb (length l) 3))

  pub whole_low : 16 ≤ get_or l 0 0
  whole_low =
      ⊎_elim
      (λ below.
      let under = ltb-true (get_or l 0 0) 16 below in
      absurd (not_none (is_unknown l whole_long (omega arith) (omega arith) (omega arith) (omega arith))))
      (λ low. ltb-false _ _ low)
      (decide (ltb (get_or l 0 0) 16))

  pub whole_high : get_or l 0 0 ≤ 19
  whole_high =
      ⊎_elim
      (λ high. let under = ltb-true (get_or l 0 0) 20 high in omega arith)
      (λ above.
      let over = ltb-false (get_or l 0 0) 20 above in
      absurd (not_none (is_unknown l whole_long (omega arith) (omega arith) (omega arith) (omega arith))))
      (decide (ltb (get_or l 0 0) 20))

  -- a whole step has four bytes
  whole_four : get_or l 0 0 ≡ 19 → 4 ≤ length l
  whole_four k =
      ⊎_elim
      (λ short. absurd (not_none (is_step_lem l whole_long k ∙ cut_step l (ltb-true _ _ short))))
      (λ long. ltb-false _ _ long)
      (decide (ltb (length l) 4))

  module _ (more : ℕ) (is : more ≡ cond (eqb (get_or l 0 0) 19) 1 0) where
    pub whole_there : 3 + more ≤ length l
    whole_there =
        ⊎_elim
        (λ k. omega (arith, more_step l more is k, whole_four k))
        (λ below. omega (arith, more_other l more is (λ k. omega arith), whole_long))
        (eq-or-lt_of_le whole_high)

    -- its fields, also where no byte follows it
    pub whole_fields : request_for (get_or l 0 0) (get_or l 1 0) (get_or l (2 + more) 0) (get_or l 2 0) ≡ request_of l
    whole_fields =
        ⊎_elim
        (λ three.
        let other : get_or l 0 0 ≡ 19 → ⊥ = λ k. omega (arith, three, whole_four k) in
        let m = more_other l more is other in
        rw m (short_fields l (get_or l 2 0) (omega arith) other))
        (λ four. long_fields l more four is)
        (eq-or-lt_of_le whole_long)
