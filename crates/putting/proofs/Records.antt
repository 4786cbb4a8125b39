-- The records of a run, one after another: the calls of some bytes are the bytes themselves and the calls after their first record. The
-- number of turns that `calls_from` may take does not matter, as long as there is one for each byte.
use Prim.Native.Nat.{ℕ, zero, suc, ◌+◌, ◌≤◌, ◌<◌}
use native.Mathlib.Nat.{not-suc-le-zero}
use native.Mathlib.Omega.{arith}
use mathlib.Core.Path.{◌≡◌, refl, sym, ap, ◌∙◌}
use mathlib.Core.Bool.{Bool, true, false, cond}
use mathlib.Core.List.{List, [], ◌∷◌}
use mathlib.Core.Option.{Option, none, some}
use lib.Dec.{eqb}
use lib.ListN.{length, drop, length-drop}
use lib.Seq.{drop-length, drop-drop}
use Rattle.policy.specs.Request.{Request, read, write, start, step, two, three, request_of, record_length}
use Rattle.policy.specs.Calls.{after_record, calls_from, calls_of, answers_due}
use Rattle.request.specs.Parsed.{next_after, next_record}

-- ---- the record at the front of some bytes, and the next

-- one of five, as four tests choose
choices : {A : Type 0} (P : A → Type 0) (a b c d : Bool) (v w x y z : A) → P v → P w → P x → P y → P z
    → P (cond a v (cond b w (cond c x (cond d y z))))
choices P true b c d v w x y z p q r s u = p
choices P false true c d v w x y z p q r s u = q
choices P false false true d v w x y z p q r s u = r
choices P false false false true v w x y z p q r s u = s
choices P false false false false v w x y z p q r s u = u

two_within : (f : ℕ → ℕ → Request) (body : List ℕ) → ((a b : ℕ) → record_length (f a b) ≡ 3)
    → next_after (two f body) (suc (length body)) ≤ suc (length body)
unfolding two next_after
two_within f [] n = omega arith
two_within f (a ∷ []) n = omega arith
two_within f (a ∷ b ∷ rest) n = omega (arith, n a b)

three_within : (f : ℕ → ℕ → ℕ → Request) (body : List ℕ) → ((a b c : ℕ) → record_length (f a b c) ≡ 4)
    → next_after (three f body) (suc (length body)) ≤ suc (length body)
unfolding three next_after
three_within f [] n = omega arith
three_within f (a ∷ []) n = omega arith
three_within f (a ∷ b ∷ []) n = omega arith
three_within f (a ∷ b ∷ c ∷ rest) n = omega (arith, n a b c)

-- the next record stands within the bytes, or at their end
pub next_within : (bytes : List ℕ) → next_record bytes ≤ length bytes
unfolding next_record request_of next_after record_length
next_within [] = omega arith
next_within (kind ∷ body) =
    choices (λ (r : Option Request). next_after r (suc (length body)) ≤ suc (length body))
    (eqb kind 16) (eqb kind 17) (eqb kind 18) (eqb kind 19) _ _ _ _ none
    (two_within read body (λ a b. refl)) (two_within write body (λ a b. refl)) (two_within start body (λ a b. refl))
    (three_within step body (λ a b c. refl)) (omega arith)

after_some : (r : Option Request) (left : ℕ) → 0 < left → 0 < next_after r left
unfolding next_after record_length
after_some none left l = l
after_some (some (read s o)) left l = omega arith
after_some (some (write s o)) left l = omega arith
after_some (some (start s u)) left l = omega arith
after_some (some (step s p o)) left l = omega arith

-- and further on
pub next_further : (bytes : List ℕ) → 0 < length bytes → 0 < next_record bytes
unfolding next_record
next_further bytes l = after_some (request_of bytes) (length bytes) l

after_dropped : (r : Option Request) (bytes : List ℕ) → after_record r bytes ≡ drop (next_after r (length bytes)) bytes
unfolding next_after after_record
after_dropped none bytes = sym (drop-length bytes)
after_dropped (some r) bytes = refl

-- ---- the calls of a run

-- the bytes from the next record on are fewer
rest_shorter : (kind : ℕ) (body : List ℕ) → length (drop (next_record (kind ∷ body)) (kind ∷ body)) ≤ length body
rest_shorter kind body =
    omega (arith, length-drop (next_record (kind ∷ body)) (kind ∷ body), next_further (kind ∷ body) (omega arith))

calls_next : (n kind : ℕ) (body : List ℕ)
    → calls_from (suc n) (kind ∷ body) ≡ (kind ∷ body) ∷ calls_from n (drop (next_record (kind ∷ body)) (kind ∷ body))
unfolding calls_from next_record
calls_next n kind body =
    ap (λ (rest : List ℕ). (kind ∷ body) ∷ calls_from n rest) (after_dropped (request_of (kind ∷ body)) (kind ∷ body))

-- turns for all the bytes, however many, give the same calls
calls_same : (n m : ℕ) (bytes : List ℕ) → length bytes ≤ n → length bytes ≤ m → calls_from n bytes ≡ calls_from m bytes
unfolding calls_from
calls_same zero zero bytes a b = refl
calls_same zero (suc m) [] a b = refl
calls_same zero (suc m) (kind ∷ body) a b = absurd (not-suc-le-zero a)
calls_same (suc n) zero [] a b = refl
calls_same (suc n) zero (kind ∷ body) a b = absurd (not-suc-le-zero b)
calls_same (suc n) (suc m) [] a b = refl
calls_same (suc n) (suc m) (kind ∷ body) a b =
    let shorter = rest_shorter kind body in
    calls_next n kind body
    ∙ ap (λ (more : List (List ℕ)). (kind ∷ body) ∷ more) (calls_same n m _ (omega arith) (omega arith))
    ∙ sym (calls_next m kind body)

pub calls_none : (bytes : List ℕ) → length bytes ≤ 0 → calls_of bytes ≡ []
unfolding calls_of calls_from
calls_none [] l = refl
calls_none (kind ∷ body) l = absurd (not-suc-le-zero l)

pub calls_more : (bytes : List ℕ) → 0 < length bytes → calls_of bytes ≡ bytes ∷ calls_of (drop (next_record bytes) bytes)
unfolding calls_of
calls_more [] l = absurd (not-suc-le-zero l)
calls_more (kind ∷ body) l =
    let rest = drop (next_record (kind ∷ body)) (kind ∷ body) in
    calls_next (length body) kind body
    ∙ ap (λ (more : List (List ℕ)). (kind ∷ body) ∷ more)
    (calls_same (length body) (length rest) rest (rest_shorter kind body) (omega arith))

-- ---- the same at a place among the requests

module _ (requests : List ℕ) (at : ℕ) (below : at < length requests) where
  some_left : 0 < length (drop at requests)
  some_left = omega (arith, length-drop at requests)

  pub next_at_within : at + next_record (drop at requests) ≤ length requests
  next_at_within = omega (arith, length-drop at requests, next_within (drop at requests))

  pub next_at_further : 0 < next_record (drop at requests)
  next_at_further = next_further (drop at requests) some_left

  pub calls_at : calls_of (drop at requests) ≡ drop at requests ∷ calls_of (drop (at + next_record (drop at requests)) requests)
  calls_at = calls_more (drop at requests) some_left
      ∙ ap (λ (rest : List ℕ). drop at requests ∷ calls_of rest) (drop-drop (next_record (drop at requests)) at requests)

  pub due_at : answers_due (drop at requests) ≡ suc (answers_due (drop (at + next_record (drop at requests)) requests))
  unfolding answers_due
  due_at = ap length calls_at

pub none_left : (requests : List ℕ) (at : ℕ) → length requests ≤ at → calls_of (drop at requests) ≡ []
none_left requests at l = calls_none (drop at requests) (omega (arith, length-drop at requests))

pub none_due : (requests : List ℕ) (at : ℕ) → length requests ≤ at → answers_due (drop at requests) ≡ 0
unfolding answers_due
none_due requests at l = ap length (none_left requests at l)
