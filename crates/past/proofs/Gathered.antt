-- What a pass over the folders has gathered after n of them: the rights used by reads and writes and the firms opened on the folders below
-- n. A folder that the person did not access changes nothing, any other adds its own, and after all folders the whole, with the rights of
-- the steps applied and of the starts, is what the person did.
use Prim.Native.Nat.{ℕ, ◌+◌, ◌*◌, ◌^◌, ◌≤◌, ◌<◌}
use native.Mathlib.Omega.{arith}
use mathlib.Core.Path.{◌≡◌, refl, sym, ap, ap₂, ◌∙◌}
use mathlib.Core.Logic.{⊎_elim}
use mathlib.Core.Bool.{Bool, true, false, cond, ◌&&◌, ◌||◌, or_assoc, or_comm}
use mathlib.Core.List.{List}
use lib.Bits.{bit_or}
use lib.Dec.{eqb, lit<}
use lib.Pow.{shl_lt}
use Rattle.bits.specs.Bits.{mask_below}
use Rattle.bits.specs.Bounded.{any_below}
use Rattle.bits.proofs.Booleans.{and_left, or_cases, or_left, or_right, or_swap, bool_ext, decide, false_elim, false_intro, by_test}
use Rattle.bits.proofs.Bounds.{any_more, any_some, some_any, any_ext}
use Rattle.bits.proofs.Masks.{mask_lt, bit_mask_below, mask_of_bits, mask_ext, mask_or, mask_with, mask_shifted}
use Rattle.policy.specs.declared.Tables.{Tables}
use Rattle.policy.specs.Tables.{folder_at, person_declared}
use Rattle.policy.specs.Rulebook.{given}
use Rattle.policy.specs.Request.{Request, read, write, start, step, set_of}
use Rattle.policy.specs.Rules.{right, some_request, firm_of_some, did, accessed, opened, used}
use Rattle.past.specs.declared.Past.{Past}
use Rattle.recorded.specs.Gathering.{applied_on, applied_at}
use Rattle.past.specs.Past.{used_on, firm_on, firms_below, past_below, past_of}
use Rattle.recorded.specs.Recorded.{with_bit_if, read_at, written_at, step_at, stepped_at, touched_at, started}
use Rattle.past.specs.Turns.{past_with, past_after, past_turn, rights_with}
use Rattle.recorded.specs.Visits.{Leads}
use Rattle.recorded.proofs.VisitLaws.{visit_start, visit_alike}
use Rattle.recorded.proofs.Joined.{join_none}
use Rattle.recorded.proofs.Recorded.{
  entry_below,
  any_and,
  did_read,
  did_write,
  did_step,
  did_start,
  undeclared,
  touched_access,
  touched_word,
}

same_past : {rights rights' firms firms' : ℕ} → rights ≡ rights' → firms ≡ firms'
    → ◌≡◌ {A = Past} (record { rights = rights; firms = firms }) (record { rights = rights'; firms = firms' })
same_past r f = rw (r, f)

-- ---- the firms of some folders, one folder more

module _ (t : Tables) (p : ℕ → Bool) where
  firms_start : 0 ≡ firms_below t p 0
  unfolding firms_below
  firms_start = join_none 64 (firm_on t p)

  firms_same : (n : ℕ) → p n ≡ false → firms_below t p n ≡ firms_below t p (n + 1)
  unfolding firms_below firm_on
  firms_same n none =
      mask_ext 64 _ _ (λ f l.
      sym (any_more n (firm_on t p f) ∙ ap (λ (b : Bool). b && eqb (folder_at t n).firm f || any_below n (firm_on t p f)) none))

  firms_more : (n : ℕ) (add : Bool) → p n ≡ add → (folder_at t n).firm < 64
      → with_bit_if add (firms_below t p n) (folder_at t n).firm ≡ firms_below t p (n + 1)
  unfolding firms_below firm_on
  firms_more n add here firm =
      mask_with 64 (λ f. any_below n (firm_on t p f)) (folder_at t n).firm add firm
      ∙ mask_ext 64 _ _ (λ f l.
      sym (any_more n (firm_on t p f) ∙ ap (λ (b : Bool). b && eqb (folder_at t n).firm f || any_below n (firm_on t p f)) here))

-- ---- one folder more, over a set of requests

module _ (t : Tables) (H : Request → Bool) (s : ℕ) where
  pub past_start : record { rights = 0; firms = 0 } ≡ past_below t H s 0
  unfolding past_below
  past_start = same_past (join_none 64 (used_on t H s)) (firms_start t (accessed t H s))

  -- what a folder that the person did not access says: no right, no firm
  unused : (x o : ℕ) → accessed t H s o ≡ false → used_on t H s x o ≡ false
  unfolding used_on accessed
  unused x o n =
      false_intro (used_on t H s x o) (λ u.
      false_elim (accessed t H s o) n
      (or_left _ _
      (⊎_elim (λ r. or_left _ _ (and_left (did t H (read s o)) _ r))
      (λ w. or_right (did t H (read s o)) _ (and_left (did t H (write s o)) _ w))
      (or_cases (did t H (read s o) && eqb (right t (read s o)) x) _ u))))

  -- a folder that the person did not access changes nothing
  untouched : (n : ℕ) → accessed t H s n ≡ false → past_below t H s n ≡ past_below t H s (n + 1)
  unfolding past_below
  untouched n none =
      same_past
      (mask_ext 64 _ _ (λ x l. sym (any_more n (used_on t H s x) ∙ ap (λ (b : Bool). b || any_below n (used_on t H s x)) (unused x n none))))
      (firms_same t (accessed t H s) n none)

  -- the rights of a read and a write
  pub rights_more : (n : ℕ) {was_read was_written : Bool} → (folder_at t n).kind < 16 → did t H (read s n) ≡ was_read
      → did t H (write s n) ≡ was_written
      → with_bit_if was_written (with_bit_if was_read (mask_below 64 (λ x. any_below n (used_on t H s x))) (folder_at t n).kind)
      (16 + (folder_at t n).kind)
      ≡ mask_below 64 (λ x. any_below (n + 1) (used_on t H s x))
  unfolding used_on right
  rights_more n {was_read} {was_written} k r w =
      let kind = (folder_at t n).kind in
      let before : ℕ → Bool = λ x. any_below n (used_on t H s x) in
      ap (λ (m : ℕ). with_bit_if was_written m (16 + kind)) (mask_with 64 before kind was_read (omega arith))
      ∙ mask_with 64 (λ x. was_read && eqb kind x || before x) (16 + kind) was_written (omega arith)
      ∙ mask_ext 64 _ _ (λ x l.
      or_swap (was_written && eqb (16 + kind) x) (was_read && eqb kind x) (before x)
      ∙ sym (or_assoc (was_read && eqb kind x) (was_written && eqb (16 + kind) x) (before x))
      ∙ rw (← r, ← w) (sym (any_more n (used_on t H s x))))

  -- a declared folder that the person accessed adds its rights and its firm
  touched : (n : ℕ) {was_read was_written : Bool} → (folder_at t n).declared ≡ true → accessed t H s n ≡ true → (folder_at t n).firm < 64
      → (folder_at t n).kind < 16 → did t H (read s n) ≡ was_read → did t H (write s n) ≡ was_written
      → past_with (folder_at t n) was_read was_written (past_below t H s n) ≡ past_below t H s (n + 1)
  unfolding past_below past_with
  touched n d some firm kind r w =
      rw d (same_past (rights_more n kind r w) (firms_more t (accessed t H s) n true some firm))

-- ---- the folders, over a history's bytes

module _ (t : Tables) (h : List ℕ) (s : ℕ) (person : person_declared t s ≡ true) where
  -- an undeclared folder changes nothing
  after_undeclared : (o : ℕ) (before : Past) → (folder_at t o).declared ≡ false → past_after t h s o before ≡ before
  unfolding past_after past_with
  after_undeclared o before d = rw d

  -- a declared folder that the person accessed
  after_touched : (n : ℕ) → n < 128 → given t ≡ true → (folder_at t n).declared ≡ true → touched_at h s n ≡ true
      → past_after t h s n (past_below t (set_of h) s n) ≡ past_below t (set_of h) s (n + 1)
  unfolding past_after
  after_touched n l g d y =
      let bounds = entry_below t g n l in
      touched t (set_of h) s n d (touched_access t h s person n l d ∙ y) (bounds.firm d) (bounds.kind d)
      (did_read t h s person n l ∙ rw d) (did_write t h s person n l ∙ rw d)

  -- a turn of the pass: only a folder that the person read, wrote in or stepped on is visited
  pub past_step : given t ≡ true → (n : ℕ) → n < 128
      → cond (touched_at h s n) (past_after t h s n (past_below t (set_of h) s n)) (past_below t (set_of h) s n)
      ≡ past_below t (set_of h) s (n + 1)
  past_step g n l =
      let before = past_below t (set_of h) s n in
      ⊎_elim
      (λ d.
      by_test (λ (x : Past). x ≡ past_below t (set_of h) s (n + 1)) (touched_at h s n) _ _ (after_touched n l g d)
      (λ none. untouched t (set_of h) s n (touched_access t h s person n l d ∙ none)))
      (λ d.
      let same = untouched t (set_of h) s n (undeclared t h s person n l d) in
      by_test (λ (x : Past). x ≡ past_below t (set_of h) s (n + 1)) (touched_at h s n) _ _ (λ y. after_undeclared n before d ∙ same)
      (λ none. same))
      (decide (folder_at t n).declared)

  -- the folders of a half that the person read, wrote in or stepped on lead to what the person did up to its last folder
  pub past_half : given t ≡ true → (first : ℕ) {reads writes steps : ℕ} {before : Past} → first + 64 ≤ 128
      → reads ≡ mask_below 64 (λ i. read_at h s (first + i)) → writes ≡ mask_below 64 (λ i. written_at h s (first + i))
      → steps ≡ mask_below 64 (λ i. stepped_at h s (first + i)) → before ≡ past_below t (set_of h) s first
      → Leads (past_turn t first reads writes) (past_below t (set_of h) s (first + 64)) (bit_or (bit_or reads writes) steps) before
  unfolding past_turn past_after
  past_half g first l r w p before =
      visit_alike
      (visit_start (past_after t h s) (past_below t (set_of h) s) (touched_at h s) (past_step g) first l (touched_word h s first r w p) before)
      (λ i x m.
      rw (r, w, bit_mask_below 64 (λ i. read_at h s (first + i)) i m, bit_mask_below 64 (λ i. written_at h s (first + i)) i m))

-- ---- the whole

-- some number has one property or the other
pub any_or : (n : ℕ) (p q : ℕ → Bool) → any_below n (λ k. p k || q k) ≡ any_below n p || any_below n q
any_or n p q =
    bool_ext _ _
    (λ e.
    let (k, l, w) = any_some n (λ k. p k || q k) e in
    ⊎_elim (λ a. or_left _ _ (some_any n p k l a)) (λ b. or_right (any_below n p) _ (some_any n q k l b)) (or_cases (p k) (q k) w))
    (λ e.
    ⊎_elim (λ a. let (k, l, w) = any_some n p a in some_any n (λ k. p k || q k) k l (or_left _ _ w))
    (λ b. let (k, l, w) = any_some n q b in some_any n (λ k. p k || q k) k l (or_right (p k) _ w)) (or_cases (any_below n p) _ e))

-- two searches, one within the other
any_within : (n m : ℕ) (p : ℕ → ℕ → Bool) → any_below n (λ k. any_below m (p k)) ≡ true → any_below m (λ j. any_below n (λ k. p k j)) ≡ true
any_within n m p e =
    let (k, l, w) = any_some n (λ k. any_below m (p k)) e in
    let (j, i, v) = any_some m (p k) w in
    some_any m (λ j. any_below n (λ k. p k j)) j i (some_any n (λ k. p k j) k l v)

any_swap : (n m : ℕ) (p : ℕ → ℕ → Bool) → any_below n (λ k. any_below m (p k)) ≡ any_below m (λ j. any_below n (λ k. p k j))
any_swap n m p = bool_ext _ _ (any_within n m p) (any_within m n (λ j k. p k j))

module _ (t : Tables) (h : List ℕ) (s : ℕ) (person : person_declared t s ≡ true) where
  -- a right of a step was used on some folder where the step was applied
  stepped_right : (x : ℕ)
      → any_below 128 (λ o. any_below 16 (λ p. did t (set_of h) (step s p o) && eqb (48 + p) x))
      ≡ any_below 16 (λ p. applied_at t h s p && eqb (48 + p) x)
  unfolding applied_at applied_on
  stepped_right x =
      any_swap 128 16 (λ o p. did t (set_of h) (step s p o) && eqb (48 + p) x)
      ∙ any_ext 16 _ _ (λ p m.
      any_ext 128 _ _ (λ o l. ap (λ (b : Bool). b && eqb (48 + p) x) (did_step t h s person p o m l))
      ∙ any_and 128 (λ o. (folder_at t o).declared && step_at h s o p) (eqb (48 + p) x))

  -- a right was used by a start, by a step, or by a read or a write
  used_whole : (x : ℕ) {starts : Bool} → any_below 64 (λ u. did t (set_of h) (start s u)) ≡ starts
      → starts && eqb 32 x || (any_below 16 (λ p. applied_at t h s p && eqb (48 + p) x) || any_below 128 (used_on t (set_of h) s x))
      ≡ used t (set_of h) s x
  unfolding used some_request used_on right
  used_whole x found =
      let on : ℕ → Bool = used_on t (set_of h) s x in
      let steps : ℕ → Bool = λ o. any_below 16 (λ p. did t (set_of h) (step s p o) && eqb (48 + p) x) in
      ap₂ ◌||◌ (ap (λ (b : Bool). b && eqb 32 x) (sym found) ∙ sym (any_and 64 (λ u. did t (set_of h) (start s u)) (eqb 32 x)))
      (ap (λ (b : Bool). b || any_below 128 on) (sym (stepped_right x)) ∙ or_comm (any_below 128 steps) (any_below 128 on)
      ∙ sym (any_or 128 on steps))
      ∙ or_comm (any_below 64 (λ u. did t (set_of h) (start s u) && eqb 32 x)) (any_below 128 (λ o. on o || steps o))

  -- the rights of reads and writes, with those of the steps and the starts, as a set
  pub rights_whole : {steps persons : ℕ} → persons ≡ mask_below 64 (person_declared t) → steps ≡ mask_below 16 (applied_at t h s)
      → rights_with (mask_below 64 (λ x. any_below 128 (used_on t (set_of h) s x))) steps (started persons h s)
      ≡ mask_below 64 (used t (set_of h) s)
  unfolding rights_with started
  rights_whole {steps} {persons} known applied =
      let by_step : ℕ → Bool = λ x. any_below 16 (λ p. applied_at t h s p && eqb (48 + p) x) in
      let on : ℕ → Bool = λ x. any_below 128 (used_on t (set_of h) s x) in
      let starts = started persons h s in
      let shifted : steps * 2 ^ 48 ≡ mask_below 64 by_step =
      rw applied
      (mask_of_bits 64 _ by_step (shl_lt 16 48 (mask_lt 16 (applied_at t h s))) (λ x m. mask_shifted 16 48 (applied_at t h s) x)) in
      ap (λ (n : ℕ). with_bit_if starts n 32) (ap (bit_or (mask_below 64 on)) shifted ∙ mask_or 64 on by_step)
      ∙ mask_with 64 (λ x. by_step x || on x) 32 starts (lit< tt)
      ∙ mask_ext 64 _ _ (λ x l. used_whole x (any_ext 64 _ _ (λ u m. did_start t h s person u m known)))

  -- what person s did on all folders, with the steps and the starts, is all that the person did
  pub past_whole : {steps persons : ℕ} → persons ≡ mask_below 64 (person_declared t) → steps ≡ mask_below 16 (applied_at t h s)
      → (let before = past_below t (set_of h) s 128 in
      record { rights = rights_with before.rights steps (started persons h s); firms = before.firms })
      ≡ past_of t (set_of h) s
  unfolding past_below firms_below past_of firm_of_some opened firm_on
  past_whole known applied = same_past (rights_whole known applied) refl
