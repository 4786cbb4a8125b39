-- The request at the front of some bytes, by the number of the bytes and the first of them: each form follows by writing the bytes out.
use Prim.Native.Nat.{ℕ, ◌+◌, ◌≤◌, ◌<◌}
use native.Mathlib.Nat.{eq-or-lt_of_le}
use native.Mathlib.Omega.{arith}
use mathlib.Core.Path.{◌≡◌, refl, sym, ap, ◌∙◌}
use mathlib.Core.Logic.{◌≢◌, ⊎_elim}
use mathlib.Core.Bool.{Bool, true, false, cond}
use mathlib.Core.List.{List, [], ◌∷◌}
use mathlib.Core.Option.{none, some}
use lib.Dec.{eqb}
use lib.ListN.{length, get_or, drop}
use borrow.Author.Tests.{eqb-true, ne_eqb}
use Rattle.bits.proofs.Booleans.{decide}
use Rattle.policy.specs.Request.{Request, read, write, start, step, two, three, request_of, record_length}
use Rattle.request.specs.Parsed.{access_by, request_for, next_after, next_record}

-- four choices among one thing
same_choices : {A : Type 0} (a b c d : Bool) (x : A) → cond a x (cond b x (cond c x (cond d x x))) ≡ x
same_choices true b c d x = refl
same_choices false true c d x = refl
same_choices false false true d x = refl
same_choices false false false true x = refl
same_choices false false false false x = refl

-- three bytes are passed by each request of three bytes, and by none
three_bytes : (a b c d : Bool) (v w x : Request) → record_length v ≡ 3 → record_length w ≡ 3 → record_length x ≡ 3
    → next_after (cond a (some v) (cond b (some w) (cond c (some x) (cond d none none)))) 3 ≡ 3
unfolding next_after
three_bytes true b c d v w x p q r = p
three_bytes false true c d v w x p q r = q
three_bytes false false true d v w x p q r = r
three_bytes false false false true v w x p q r = refl
three_bytes false false false false v w x p q r = refl

-- fewer than three bytes hold no request
pub too_short : (l : List ℕ) → length l < 3 → request_of l ≡ none
unfolding request_of two three
too_short [] h = refl
too_short (k ∷ []) h = same_choices (eqb k 16) (eqb k 17) (eqb k 18) (eqb k 19) none
too_short (k ∷ a ∷ []) h = same_choices (eqb k 16) (eqb k 17) (eqb k 18) (eqb k 19) none
too_short (k ∷ a ∷ b ∷ l) h = let z : ⊥ = omega arith in absurd z

module _ (l : List ℕ) (long : 3 ≤ length l) where
  -- what holds of all bytes, three of them written out, holds of these
  written : (P : List ℕ → Type 0) → ((k a b : ℕ) (rest : List ℕ) → P (k ∷ a ∷ b ∷ rest)) → P l
  written P f = go l long
    where
      go : (m : List ℕ) → 3 ≤ length m → P m
      go [] h = let z : ⊥ = omega arith in absurd z
      go (k ∷ []) h = let z : ⊥ = omega arith in absurd z
      go (k ∷ a ∷ []) h = let z : ⊥ = omega arith in absurd z
      go (k ∷ a ∷ b ∷ rest) h = f k a b rest

  pub is_access_lem : 16 ≤ get_or l 0 0 → get_or l 0 0 ≤ 17 → request_of l ≡ some (access_by (eqb (get_or l 0 0) 17) (get_or l 1 0) (get_or l 2 0))
  unfolding request_of two access_by
  is_access_lem =
      written (λ m. 16 ≤ get_or m 0 0 → get_or m 0 0 ≤ 17 → request_of m ≡ some (access_by (eqb (get_or m 0 0) 17) (get_or m 1 0) (get_or m 2 0)))
      (λ k a b rest low high.
      ⊎_elim (λ e. rw (← e)) (λ above. let e : k ≡ 17 = omega arith in rw e) (eq-or-lt_of_le low))

  pub is_start : get_or l 0 0 ≡ 18 → request_of l ≡ some (start (get_or l 1 0) (get_or l 2 0))
  unfolding request_of two
  is_start =
      written (λ m. get_or m 0 0 ≡ 18 → request_of m ≡ some (start (get_or m 1 0) (get_or m 2 0))) (λ k a b rest e. rw e)

  pub is_step_lem : get_or l 0 0 ≡ 19 → request_of l ≡ three step (drop 1 l)
  unfolding request_of two
  is_step_lem = written (λ m. get_or m 0 0 ≡ 19 → request_of m ≡ three step (drop 1 m)) (λ k a b rest e. rw e)

  pub is_unknown : get_or l 0 0 ≢ 16 → get_or l 0 0 ≢ 17 → get_or l 0 0 ≢ 18 → get_or l 0 0 ≢ 19 → request_of l ≡ none
  unfolding request_of
  is_unknown =
      written
      (λ m. get_or m 0 0 ≢ 16 → get_or m 0 0 ≢ 17 → get_or m 0 0 ≢ 18 → get_or m 0 0 ≢ 19 → request_of m ≡ none)
      (λ k a b rest p q r s. rw (ne_eqb k 16 p, ne_eqb k 17 q, ne_eqb k 18 r, ne_eqb k 19 s))

-- a step's record has four bytes
pub cut_step : (l : List ℕ) → length l < 4 → three step (drop 1 l) ≡ none
unfolding three
cut_step [] h = refl
cut_step (k ∷ []) h = refl
cut_step (k ∷ a ∷ []) h = refl
cut_step (k ∷ a ∷ b ∷ []) h = refl
cut_step (k ∷ a ∷ b ∷ c ∷ rest) h = let z : ⊥ = omega arith in absurd z

pub whole_step : (l : List ℕ) → 4 ≤ length l → three step (drop 1 l) ≡ some (step (get_or l 1 0) (get_or l 2 0) (get_or l 3 0))
unfolding three
whole_step [] h = let z : ⊥ = omega arith in absurd z
whole_step (k ∷ []) h = let z : ⊥ = omega arith in absurd z
whole_step (k ∷ a ∷ []) h = let z : ⊥ = omega arith in absurd z
whole_step (k ∷ a ∷ b ∷ []) h = let z : ⊥ = omega arith in absurd z
whole_step (k ∷ a ∷ b ∷ c ∷ rest) h = refl

-- three bytes of kind 19 or above hold no request
pub unknown_short : (l : List ℕ) → length l ≡ 3 → 19 ≤ get_or l 0 0 → request_of l ≡ none
unknown_short l n low =
    ⊎_elim (λ e. is_step_lem l (omega arith) (sym e) ∙ cut_step l (omega arith))
    (λ above. is_unknown l (omega arith) (omega arith) (omega arith) (omega arith) (omega arith)) (eq-or-lt_of_le low)

-- ---- the fields of a record

-- a record of three bytes that is no step
pub short_fields : (l : List ℕ) (p : ℕ) → length l ≡ 3 → get_or l 0 0 ≢ 19
    → request_for (get_or l 0 0) (get_or l 1 0) (get_or l 2 0) p ≡ request_of l
unfolding request_of request_for two three
short_fields [] p n k = let z : ⊥ = omega arith in absurd z
short_fields (k ∷ []) p n other = let z : ⊥ = omega arith in absurd z
short_fields (k ∷ a ∷ []) p n other = let z : ⊥ = omega arith in absurd z
short_fields (k ∷ a ∷ b ∷ []) p n other = rw (ne_eqb k 19 other)
short_fields (k ∷ a ∷ b ∷ c ∷ rest) p n other = let z : ⊥ = omega arith in absurd z

-- what stands in the place of a step's folder does not matter to another kind
no_step : (k a b c p : ℕ) → eqb k 19 ≡ false
    → request_for k a b p
    ≡ cond (eqb k 16) (some (read a b))
    (cond (eqb k 17) (some (write a b)) (cond (eqb k 18) (some (start a b)) (cond (eqb k 19) (some (step a b c)) none)))
unfolding request_for
no_step k a b c p e = rw e

-- the fields of a record where four bytes are left: a step has its folder one place on
pub long_fields : (l : List ℕ) (more : ℕ) → 4 ≤ length l → more ≡ cond (eqb (get_or l 0 0) 19) 1 0
    → request_for (get_or l 0 0) (get_or l 1 0) (get_or l (2 + more) 0) (get_or l 2 0) ≡ request_of l
unfolding request_of request_for two three
long_fields [] more n e = let z : ⊥ = omega arith in absurd z
long_fields (k ∷ []) more n e = let z : ⊥ = omega arith in absurd z
long_fields (k ∷ a ∷ []) more n e = let z : ⊥ = omega arith in absurd z
long_fields (k ∷ a ∷ b ∷ []) more n e = let z : ⊥ = omega arith in absurd z
long_fields (k ∷ a ∷ b ∷ c ∷ rest) more n e =
    ⊎_elim
    (λ y.
    let m : more ≡ 1 = e ∙ ap (λ (x : Bool). cond x 1 0) y in
    let i : k ≡ 19 = eqb-true k 19 y in
    rw (m, i))
    (λ f. let m : more ≡ 0 = e ∙ ap (λ (x : Bool). cond x 1 0) f in rw m (no_step k a b c b f))
    (decide (eqb k 19))

-- ---- how far on the next record stands

-- fewer than four bytes are passed all, whether they are a record of three bytes or none
pub next_short : (l : List ℕ) → length l < 4 → next_record l ≡ length l
unfolding next_record request_of two three next_after record_length
next_short [] h = refl
next_short (k ∷ []) h = ap (λ r. next_after r 1) (same_choices (eqb k 16) (eqb k 17) (eqb k 18) (eqb k 19) none)
next_short (k ∷ a ∷ []) h = ap (λ r. next_after r 2) (same_choices (eqb k 16) (eqb k 17) (eqb k 18) (eqb k 19) none)
next_short (k ∷ a ∷ b ∷ []) h =
    three_bytes (eqb k 16) (eqb k 17) (eqb k 18) (eqb k 19) (read a b) (write a b) (start a b) refl refl refl
next_short (k ∷ a ∷ b ∷ c ∷ rest) h = let z : ⊥ = omega arith in absurd z

-- an unknown record ends a run
pub next_unknown : (l : List ℕ) → 3 ≤ length l → get_or l 0 0 ≢ 16 → get_or l 0 0 ≢ 17 → get_or l 0 0 ≢ 18 → get_or l 0 0 ≢ 19
    → next_record l ≡ length l
unfolding next_record next_after
next_unknown l long p q r s = rw (is_unknown l long p q r s)
