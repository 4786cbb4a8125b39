-- Little-endian numbers in the bytes from a position on, which may run past the end: the first byte, and 256 times the number in the
-- others. By induction this gives the sums that the code adds up.
use Prim.Native.Nat.{ℕ, suc, ◌+◌, ◌*◌, ◌^◌}
use native.Mathlib.Nat.{add-zero}
use native.Mathlib.Omega.{arith}
use mathlib.Core.List.{List, [], ◌∷◌}
use mathlib.Core.Path.{◌≡◌, refl, ap, ap₂, ◌∙◌}
use lib.ListN.{get_or, take, drop}
use lib.Seq.{take-nil, get_or-drop, drop-drop}
use Rattle.policy.specs.Rulebook.{little_endian}

first_byte : (n : ℕ) (bytes : List ℕ) → little_endian (take (suc n) bytes) ≡ get_or bytes 0 0 + 256 * little_endian (take n (drop 1 bytes))
unfolding little_endian
first_byte n [] = rw (take-nil n)
first_byte n (b ∷ bytes) = refl

byte_at : (n at : ℕ) (s : List ℕ)
    → little_endian (take (suc n) (drop at s)) ≡ get_or s at 0 + 256 * little_endian (take n (drop (at + 1) s))
byte_at n at s =
    first_byte n (drop at s)
    ∙ ap₂ (λ (b m : ℕ). b + 256 * m) (get_or-drop at s 0 0 ∙ ap (λ (i : ℕ). get_or s i 0) (add-zero at))
    (ap (λ (l : List ℕ). little_endian (take n l)) (drop-drop 1 at s))

no_bytes : (at : ℕ) (s : List ℕ) → little_endian (take 0 (drop at s)) ≡ 0
unfolding little_endian
no_bytes at s = refl

pub two_bytes : (at : ℕ) (s : List ℕ) → little_endian (take 2 (drop at s)) ≡ get_or s at 0 + 256 * get_or s (at + 1) 0
two_bytes at s = omega (arith, byte_at 1 at s, byte_at 0 (at + 1) s, no_bytes (at + 1 + 1) s)

-- the byte at a distance, and 256 times the number in the others
byte_on : (n at i : ℕ) (s : List ℕ)
    → little_endian (take (suc n) (drop (at + i) s)) ≡ get_or s (at + i) 0 + 256 * little_endian (take n (drop (at + suc i) s))
byte_on n at i s =
    byte_at n (at + i) s
    ∙ ap (λ (k : ℕ). get_or s (at + i) 0 + 256 * little_endian (take n (drop k s))) (omega arith)

pub eight_bytes : (at : ℕ) (s : List ℕ)
    → little_endian (take 8 (drop at s))
    ≡ get_or s at 0 + 256 * get_or s (at + 1) 0 + 256 ^ 2 * get_or s (at + 2) 0 + 256 ^ 3 * get_or s (at + 3) 0
    + 256 ^ 4 * get_or s (at + 4) 0 + 256 ^ 5 * get_or s (at + 5) 0 + 256 ^ 6 * get_or s (at + 6) 0 + 256 ^ 7 * get_or s (at + 7) 0
eight_bytes at s =
    omega (
      arith,
      byte_at 7 at s,
      byte_on 6 at 1 s,
      byte_on 5 at 2 s,
      byte_on 4 at 3 s,
      byte_on 3 at 4 s,
      byte_on 2 at 5 s,
      byte_on 1 at 6 s,
      byte_on 0 at 7 s,
      no_bytes (at + 8) s,
    )
