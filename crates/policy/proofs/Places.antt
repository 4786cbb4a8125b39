-- A history and the set that it holds: recording a request adds it to the set and nothing else, a blank history holds no request, and
-- histories that hold the same set are equal. All rests on one fact: the requests that have a place and the bits are one to one.
use Prim.Native.Nat.{ℕ, zero, suc, ◌+◌, ◌-◌, ◌*◌, ◌/◌, ◌%◌, ◌<◌}
use native.Mathlib.Omega.{arith}
use mathlib.Core.Path.{◌≡◌, refl, sym, ap, ap₂, ◌∙◌}
use mathlib.Core.Bool.{Bool, true, false, cond, ◌&&◌, ◌||◌, false≢true, and-false, and-or_distrib_left}
use mathlib.Core.List.{List, [], ◌∷◌}
use lib.Dec.{eqb, ltb}
use lib.ListN.{length, get_or, set, length-set, length-replicate}
use lib.Seq.{ext_get_or, get_or-set_same, get_or-set_other}
use borrow.Author.Tests.{ltb-true, ltb-false, lt-ltb, le-ltb, eqb-true, eqb-false, eq-eqb, ne_eqb}
use Rattle.bits.specs.Bits.{bit, with_bit}
use Rattle.bits.proofs.Booleans.{and_left, and_right, and_both, bool_ext}
use Rattle.bits.proofs.BitLaws.{bit_zero, bit_with, bits_ext, with_lt}
use Rattle.policy.specs.History.{history_bytes, bit_at, with_bit_at, zeros}
use Rattle.policy.specs.Request.{Request, read, write, start, step, same, index, has_place, set_of, recorded}
use Rattle.policy.proofs.Requests.{same_eq, same_refl}
use Rattle.bits.proofs.Booleans.{by_test}

-- ---- indexes

both_below : (a m b n : ℕ) → ltb a m && ltb b n ≡ true → (a < m) × (b < n)
both_below a m b n e = (ltb-true a m (and_left (ltb a m) _ e), ltb-true b n (and_right (ltb a m) _ e))

below_both : (a m b n : ℕ) → a < m → b < n → ltb a m && ltb b n ≡ true
below_both a m b n h l = and_both _ _ (lt-ltb a m h) (lt-ltb b n l)

step_below_lem : (s p o : ℕ) → has_place (step s p o) ≡ true → (s < 64) × (p < 16) × (o < 128)
unfolding has_place
step_below_lem s p o e =
    let (a, b) = both_below s 64 p 16 (and_left (ltb s 64 && ltb p 16) _ e) in
    (a, b, ltb-true o 128 (and_right (ltb s 64 && ltb p 16) _ e))

pub index_below_lem : (r : Request) → has_place r ≡ true → index r < 151552
unfolding index has_place
index_below_lem (read s o) e = let (a, b) = both_below s 64 o 128 e in omega arith
index_below_lem (write s o) e = let (a, b) = both_below s 64 o 128 e in omega arith
index_below_lem (start s u) e = let (a, b) = both_below s 64 u 64 e in omega arith
index_below_lem (step s p o) e = let (a, b, c) = step_below_lem s p o e in omega arith

-- the request whose bit has index n
unfoldable pub request_at : ℕ → Request
request_at n =
    cond (ltb n 8192) (read (n / 128) (n % 128))
    (cond (ltb n 16384) (write ((n - 8192) / 128) (n % 128))
    (cond (ltb n 20480) (start ((n - 16384) / 64) (n % 64))
    (step (n % 64) ((n - 20480) / 64 % 16) ((n - 20480) / 64 / 16))))

pub request_index : (r : Request) → has_place r ≡ true → request_at (index r) ≡ r
unfolding index has_place request_at
request_index (read s o) e =
    let (a, b) = both_below s 64 o 128 e in
    rw (lt-ltb (128 * s + o) 8192 (omega arith)) (ap₂ read (omega arith) (omega arith))
request_index (write s o) e =
    let (a, b) = both_below s 64 o 128 e in
    let n = 8192 + 128 * s + o in
    rw (le-ltb n 8192 (omega arith), lt-ltb n 16384 (omega arith)) (ap₂ write (omega arith) (omega arith))
request_index (start s u) e =
    let (a, b) = both_below s 64 u 64 e in
    let n = 16384 + 64 * s + u in
    rw (le-ltb n 8192 (omega arith), le-ltb n 16384 (omega arith), lt-ltb n 20480 (omega arith)) (ap₂ start (omega arith) (omega arith))
request_index (step s p o) e =
    let (a, b, c) = step_below_lem s p o e in
    let n = 20480 + 64 * (16 * o + p) + s in
    let d : n % 64 ≡ s = omega arith in
    let f : (n - 20480) / 64 % 16 ≡ p = omega arith in
    let g : (n - 20480) / 64 / 16 ≡ o = omega arith in
    rw (le-ltb n 8192 (omega arith), le-ltb n 16384 (omega arith), le-ltb n 20480 (omega arith)) (cc)

pub index_injective : (q r : Request) → has_place q ≡ true → has_place r ≡ true → index q ≡ index r → q ≡ r
index_injective q r e f h = sym (request_index q e) ∙ ap request_at h ∙ request_index r f

-- the request has a place, and it is n
abbrev pub HasIndex : ℕ → Request → Type 0
HasIndex n r = (has_place r ≡ true) × (index r ≡ n)

pub index_request : (n : ℕ) → n < 151552 → HasIndex n (request_at n)
unfolding index has_place request_at
index_request n l =
    by_test (HasIndex n) (ltb n 8192) _ _
    (λ t. let a = ltb-true n 8192 t in (below_both (n / 128) 64 (n % 128) 128 (omega arith) (omega arith), omega arith))
    (λ f. let a = ltb-false n 8192 f in by_test (HasIndex n) (ltb n 16384) _ _
    (λ t. let b = ltb-true n 16384 t in
    (below_both ((n - 8192) / 128) 64 (n % 128) 128 (omega arith) (omega arith), omega arith))
    (λ f. let b = ltb-false n 16384 f in by_test (HasIndex n) (ltb n 20480) _ _
    (λ t. let c = ltb-true n 20480 t in
    (below_both ((n - 16384) / 64) 64 (n % 64) 64 (omega arith) (omega arith), omega arith))
    (λ f. let c = ltb-false n 20480 f in (
      and_both _ _ (below_both (n % 64) 64 ((n - 20480) / 64 % 16) 16 (omega arith) (omega arith))
          (lt-ltb ((n - 20480) / 64 / 16) 128 (omega arith)),
      omega arith,
    ))))

-- ---- bits

-- after bit i is set, bit i is, and every other bit is as it was
pub bit_recorded : (h : List ℕ) (i j : ℕ) → i / 8 < length h → bit_at (with_bit_at h i) j ≡ eqb j i || bit_at h j
unfolding bit_at with_bit_at
bit_recorded h i j l = go (eqb (j / 8) (i / 8)) refl
  where
    byte : ℕ
    byte = with_bit (get_or h (i / 8) 0) (i % 8)

    go : (same_byte : Bool) → eqb (j / 8) (i / 8) ≡ same_byte
        → bit (get_or (set h (i / 8) byte) (j / 8) 0) (j % 8) ≡ eqb j i || bit (get_or h (j / 8) 0) (j % 8)
    go true e =
        let d = eqb-true (j / 8) (i / 8) e in
        let same_bit : eqb (j % 8) (i % 8) ≡ eqb j i =
        bool_ext _ _ (λ a. let k = eqb-true (j % 8) (i % 8) a in eq-eqb j i (omega arith))
        (λ a. let k = eqb-true j i a in eq-eqb (j % 8) (i % 8) (omega arith)) in
        rw (d, get_or-set_same h (i / 8) byte 0 l, bit_with, same_bit)
    go false e =
        let d = eqb-false (j / 8) (i / 8) e in
        rw (get_or-set_other h (i / 8) (j / 8) byte 0 d, ne_eqb j i (λ k. d (ap (λ (n : ℕ). n / 8) k)))

-- ---- the set that a history holds

same_index : (r q : Request) → has_place r ≡ true → has_place q && eqb (index q) (index r) ≡ same r q
same_index r q e =
    bool_ext _ _
    (λ a.
    let i = eqb-true (index q) (index r) (and_right (has_place q) _ a) in
    rw (index_injective q r (and_left (has_place q) _ a) e i) (same_refl r))
    (λ a. rw (← (same_eq r q a)) (and_both _ _ e (eq-eqb (index r) (index r) refl)))

-- recording adds the request to the set, and nothing else
pub set_recorded : (h : List ℕ) → length h ≡ history_bytes → (r q : Request) → has_place r ≡ true
    → set_of (recorded h r) q ≡ same r q || set_of h q
unfolding set_of recorded
set_recorded h n r q e =
    let l = index_below_lem r e in
    rw (bit_recorded h (index r) (index q) (omega arith), and-or_distrib_left, same_index r q e)

-- the length of a history, and that its elements are bytes
pub record Sized (h : List ℕ) : Type 0 where
  pub size : length h ≡ history_bytes
  pub bytes : (i : ℕ) → get_or h i 0 < 256

zeros_at : (n i : ℕ) → get_or (zeros n) i 0 ≡ 0
unfolding zeros
zeros_at zero i = refl
zeros_at (suc n) zero = refl
zeros_at (suc n) (suc i) = zeros_at n i

zeros_length : (n : ℕ) → length (zeros n) ≡ n
unfolding zeros
zeros_length n = length-replicate {A = ℕ} n 0

pub sized_zeros : Sized (zeros history_bytes)
sized_zeros = record { size = zeros_length history_bytes; bytes = λ i. omega (arith, zeros_at history_bytes i) }

-- a blank history holds no request
pub set_zeros : (r : Request) → set_of (zeros history_bytes) r ≡ false
unfolding set_of bit_at
set_zeros r = rw (zeros_at history_bytes (index r / 8), bit_zero, and-false)

set_bytes : (h : List ℕ) (k v : ℕ) → v < 256 → ((i : ℕ) → get_or h i 0 < 256) → (i : ℕ) → get_or (set h k v) i 0 < 256
set_bytes [] k v l b i = b i
set_bytes (x ∷ h) zero v l b zero = l
set_bytes (x ∷ h) zero v l b (suc i) = b (suc i)
set_bytes (x ∷ h) (suc k) v l b zero = b 0
set_bytes (x ∷ h) (suc k) v l b (suc i) = set_bytes h k v l (λ n. b (suc n)) i

pub size_recorded : (h : List ℕ) (r : Request) → length (recorded h r) ≡ length h
unfolding recorded with_bit_at
size_recorded h r = length-set h _ _

pub sized_recorded : (h : List ℕ) (r : Request) → Sized h → Sized (recorded h r)
unfolding recorded with_bit_at
sized_recorded h r z =
    record {
      size = size_recorded h r ∙ z.size;
      bytes = set_bytes h _ _ (with_lt 8 _ (index r % 8) (z.bytes (index r / 8)) (omega arith)) z.bytes;
    }

and_cancel : (a b c : Bool) → a ≡ true → a && b ≡ a && c → b ≡ c
and_cancel true b c t e = e
and_cancel false b c t e = absurd (false≢true t)

same_bits : (h h' : List ℕ) → ((r : Request) → set_of h r ≡ set_of h' r) → (n : ℕ) → n < 151552 → bit_at h n ≡ bit_at h' n
unfolding set_of
same_bits h h' e n l =
    let (place, i) = index_request n l in
    rw i at (and_cancel (has_place (request_at n)) (bit_at h (index (request_at n))) (bit_at h' (index (request_at n))) place (e (request_at n)))

-- histories that hold the same set are equal
pub set_history : (h h' : List ℕ) → Sized h → Sized h' → ((r : Request) → set_of h r ≡ set_of h' r) → h ≡ h'
unfolding bit_at
set_history h h' z z' e =
    ext_get_or 0 h h' (z.size ∙ sym z'.size) (λ i l.
    bits_ext 8 (get_or h i 0) (get_or h' i 0) (z.bytes i) (z'.bytes i) (λ j k.
    let n = z.size in
    let byte : (8 * i + j) / 8 ≡ i = omega arith in
    let place : (8 * i + j) % 8 ≡ j = omega arith in
    rw (byte, place) at (same_bits h h' e (8 * i + j) (omega arith))))
