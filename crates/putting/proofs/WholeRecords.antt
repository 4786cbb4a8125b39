-- The whole records of a run: a turn that finds one goes on behind it, and one that finds an unknown or cut record, or no byte, stays for
-- good. So where some number of turns, not less than the bytes left, comes to is where the whole records end.
use Prim.Native.Nat.{ℕ, zero, suc, ◌+◌, ◌≤◌, ◌<◌}
use native.Mathlib.Nat.{eq-zero-or-pos}
use native.Mathlib.Omega.{arith}
use mathlib.Core.List.{List}
use mathlib.Core.Logic.{⊎_elim}
use mathlib.Core.Path.{◌≡◌, refl, sym, ap, ◌∙◌}
use lib.ListN.{length, drop, length-drop}
use Rattle.policy.specs.Calls.{answers_due}
use Rattle.request.specs.declared.Parsed.{Parsed}
use Rattle.request.specs.Parsed.{next_record, whole_length, ParsedFrom}
use Rattle.request.proofs.WholeLaws.{next_whole, next_none}
use Rattle.putting.specs.Running.{end_from, whole_end}
use Rattle.putting.proofs.Records.{next_within, due_at, none_due}

-- some number of turns from a place on, not less than the bytes left, comes to the end of the whole records
pub record Left (requests : List ℕ) (at : ℕ) : Type 0 where
  pub turns : ℕ
  pub enough : length requests ≤ at + turns
  pub same : end_from turns requests at ≡ whole_end requests

pub starts : (requests : List ℕ) → Left requests 0
unfolding whole_end
starts requests = record { turns = length requests; enough = omega arith; same = refl }

-- turns go on, never back
turns_on : (n : ℕ) (requests : List ℕ) (at : ℕ) → at ≤ end_from n requests at
unfolding end_from
turns_on zero requests at = omega arith
turns_on (suc n) requests at = omega (arith, turns_on n requests (at + whole_length (drop at requests)))

-- so they come to no place behind the end of the whole records
not_past : {requests : List ℕ} {at : ℕ} → Left requests at → at ≤ whole_end requests
not_past {requests} {at} left = omega (arith, turns_on left.turns requests at, left.same)

module _ (requests : List ℕ) (at : ℕ) where
  -- a turn over no whole record stays
  stays : (n : ℕ) → whole_length (drop at requests) ≡ 0 → end_from n requests at ≡ at
  unfolding end_from
  stays zero none = refl
  stays (suc n) none =
      let here : at + whole_length (drop at requests) ≡ at = omega arith in
      ap (end_from n requests) here ∙ stays n none

  -- a whole record stands among the bytes
  pub whole_within : 0 < whole_length (drop at requests) → at + whole_length (drop at requests) ≤ length requests
  whole_within whole =
      omega (arith, whole, length-drop at requests, next_whole (drop at requests) whole, next_within (drop at requests))

  -- none or one stands here
  whole_or_none : {P : Type 0} → (whole_length (drop at requests) ≡ 0 → P) → (0 < whole_length (drop at requests) → P) → P
  whole_or_none none whole = ⊎_elim none whole (eq-zero-or-pos (whole_length (drop at requests)))

  -- none stands behind the last byte
  pub none_behind : length requests ≤ at → whole_length (drop at requests) ≡ 0
  none_behind behind = whole_or_none (λ none. none) (λ whole. absurd (omega (arith, behind, whole, whole_within whole)))

  module _ (left : Left requests at) where
    -- where none stands, the whole records end
    pub ends : whole_length (drop at requests) ≡ 0 → at ≡ whole_end requests
    ends none = sym (stays left.turns none) ∙ left.same

    -- before their end, one stands
    whole_at : at < whole_end requests → 0 < whole_length (drop at requests)
    whole_at before = whole_or_none (λ none. absurd (omega (arith, before, ends none))) (λ whole. whole)

  goes_by : (turns : ℕ) → length requests ≤ at + turns → end_from turns requests at ≡ whole_end requests
      → 0 < whole_length (drop at requests) → Left requests (at + whole_length (drop at requests))
  unfolding end_from
  goes_by zero enough same whole = absurd (omega (arith, enough, whole, whole_within whole))
  goes_by (suc n) enough same whole = record { turns = n; enough = omega (arith, enough, whole); same = same }

  -- one turn more
  pub goes : Left requests at → 0 < whole_length (drop at requests) → Left requests (at + whole_length (drop at requests))
  goes left whole = goes_by left.turns left.enough left.same whole

  -- ---- the answers due

  pub due_whole : 0 < whole_length (drop at requests)
      → answers_due (drop at requests) ≡ suc (answers_due (drop (at + whole_length (drop at requests)) requests))
  due_whole whole =
      due_at requests at (omega (arith, whole, whole_within whole))
      ∙ ap (λ (n : ℕ). suc (answers_due (drop (at + n) requests))) (next_whole (drop at requests) whole)

  -- an unknown or cut record has the last answer
  pub due_last : at < length requests → whole_length (drop at requests) ≡ 0 → answers_due (drop at requests) ≡ 1
  due_last below none =
      let next = next_none (drop at requests) none in
      due_at requests at below
      ∙ ap suc (none_due requests (at + next_record (drop at requests)) (omega (arith, next, length-drop at requests)))

  -- where no whole record stands, one answer is left at most
  due_none : whole_length (drop at requests) ≡ 0 → answers_due (drop at requests) ≤ 1
  due_none none =
      let left = length-drop at requests in
      ⊎_elim (λ empty. omega (arith, none_due requests at (omega (arith, empty, left))))
      (λ some. omega (arith, due_last (omega (arith, some, left)) none)) (eq-zero-or-pos (length (drop at requests)))

-- ---- a turn of a run

module _ {requests : List ℕ} {at : ℕ} (left : Left requests at) where
  module _ {end : ℕ} (is : end ≡ whole_end requests) (before : at < end) where
    -- before the end of the whole records, one stands
    pub whole_before : 0 < whole_length (drop at requests)
    whole_before = whole_at requests at left (rw (← is) before)

    -- and bytes are left
    pub below_end : at < length requests
    below_end = omega (arith, whole_before, whole_within requests at whole_before)

  -- from their end on, none does, and one answer is left at most
  pub due_from_end : {end : ℕ} → end ≡ whole_end requests → end ≤ at → answers_due (drop at requests) ≤ 1
  due_from_end is past =
      due_none requests at (whole_or_none requests at (λ none. none)
      (λ whole. absurd (omega (arith, past, is, whole, not_past (goes requests at left whole)))))

  -- a whole record that is parsed is passed
  pub goes_parsed : {r : Parsed} → 0 < whole_length (drop at requests) → ParsedFrom (drop at requests) r → Left requests (at + r.next)
  goes_parsed whole parsed = rw (parsed.onward, next_whole (drop at requests) whole) (goes requests at left whole)
