-- The puts of a run are one for each record, up to the end or the first record that is unknown or cut, and there is one way to read them:
-- by induction on the bytes left, since a record has at least three bytes.
use Prim.Native.Nat.{ℕ, zero, suc, ◌≤◌, ◌<◌}
use native.Mathlib.Nat.{not-suc-le-zero}
use native.Mathlib.Omega.{arith}
use mathlib.Core.Path.{◌≡◌, refl, sym, ap, ◌∙◌}
use mathlib.Core.List.{List, [], ◌∷◌}
use mathlib.Core.Option.{Option, none, some}
use lib.ListN.{length, drop, length-drop}
use Rattle.policy.specs.Request.{Request, read, write, start, step, request_of, record_length}
use Rattle.policy.specs.Calls.{after_record, calls_from, calls_of}
use Rattle.policy.specs.Causes.{NoRequest, Turns}
use Rattle.policy.proofs.Fronts.{front_request, front_left, front_none, request_front}

no_calls : (n : ℕ) → calls_from n [] ≡ []
unfolding calls_from
no_calls zero = refl
no_calls (suc n) = refl

record_some : (r : Request) → 0 < record_length r
unfolding record_length
record_some (read s o) = omega arith
record_some (write s o) = omega arith
record_some (start s u) = omega arith
record_some (step s p o) = omega arith

turns_from : (n : ℕ) (bytes : List ℕ) → length bytes ≤ n → Turns bytes (calls_from n bytes)
unfolding calls_from after_record
turns_from zero [] l = Turns.no_record
turns_from zero (kind ∷ body) l = absurd (not-suc-le-zero l)
turns_from (suc n) [] l = Turns.no_record
turns_from (suc n) (kind ∷ body) l = go (request_of (kind ∷ body)) refl (turns_from n)
  where
    go : (r : Option Request) → request_of (kind ∷ body) ≡ r
        → ((bytes : List ℕ) → length bytes ≤ n → Turns bytes (calls_from n bytes))
        → Turns (kind ∷ body) ((kind ∷ body) ∷ calls_from n (after_record (request_of (kind ∷ body)) (kind ∷ body)))
    go none e later = rw (e, no_calls n) (Turns.last (front_none (kind ∷ body) e))
    go (some r) e later =
        let (rest, f) = request_front (kind ∷ body) r e in
        let shorter = length-drop (record_length r) (kind ∷ body) in
        let some_byte = record_some r in
        rw (e, front_left r f)
        (Turns.turn r f (rw (front_left r f) at (later (drop (record_length r) (kind ∷ body)) (omega arith))))

pub turns_of : (requests : List ℕ) → Turns requests (calls_of requests)
unfolding calls_of
turns_of requests = turns_from (length requests) requests (omega arith)

-- ---- one way to read them

-- a record at the front: its put, and those of what follows it
calls_turn : (n : ℕ) (bytes : List ℕ) (r : Request) → request_of bytes ≡ some r
    → calls_from (suc n) bytes ≡ bytes ∷ calls_from n (drop (record_length r) bytes)
unfolding request_of calls_from after_record
calls_turn n [] r e = let z : ◌≡◌ {A = ℕ} 0 1 = cc in absurd (omega arith)
calls_turn n (kind ∷ body) r e = rw e

-- none at the front: one put, the last
calls_last : (n b : ℕ) (bytes : List ℕ) → NoRequest (b ∷ bytes) → calls_from (suc n) (b ∷ bytes) ≡ (b ∷ bytes) ∷ []
unfolding calls_from after_record
calls_last n b bytes none-there = go (request_of (b ∷ bytes)) refl
  where
    go : (r : Option Request) → request_of (b ∷ bytes) ≡ r
        → (b ∷ bytes) ∷ calls_from n (after_record r (b ∷ bytes)) ≡ (b ∷ bytes) ∷ []
    go none e = ap (λ (l : List (List ℕ)). (b ∷ bytes) ∷ l) (no_calls n)
    go (some r) e = let (rest, f) = request_front (b ∷ bytes) r e in absurd (none-there (r, rest, f, tt))

turns_calls : {bytes : List ℕ} {calls : List (List ℕ)} → Turns bytes calls → (n : ℕ) → length bytes ≤ n → calls ≡ calls_from n bytes
unfolding request_of
turns_calls Turns.no_record n l = sym (no_calls n)
turns_calls (Turns.last none-there) zero l = absurd (not-suc-le-zero l)
turns_calls (Turns.last {b = b} {bytes = bytes} none-there) (suc n) l = sym (calls_last n b bytes none-there)
turns_calls (Turns.turn r {bytes = []} {rest = rest} f later) n l =
    let e = front_request r rest f in
    let z : ◌≡◌ {A = ℕ} 0 1 = cc in
    absurd (omega arith)
turns_calls (Turns.turn r {bytes = kind ∷ body} f later) zero l = absurd (not-suc-le-zero l)
turns_calls (Turns.turn r {bytes = kind ∷ body} {rest = rest} f later) (suc n) l =
    let shorter = length-drop (record_length r) (kind ∷ body) in
    let some_byte = record_some r in
    let left = front_left r f in
    sym
    (calls_turn n (kind ∷ body) r (front_request r rest f)
    ∙ ap (λ (l : List (List ℕ)). (kind ∷ body) ∷ l)
    (ap (calls_from n) left ∙ sym (turns_calls later n (rw (← left) (omega arith)))))

pub turns_once : {requests : List ℕ} {calls : List (List ℕ)} → Turns requests calls → calls ≡ calls_of requests
unfolding calls_of
turns_once {requests} w = turns_calls w (length requests) (omega arith)
