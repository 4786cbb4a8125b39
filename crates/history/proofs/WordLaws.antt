-- The 64 bits of eight bytes from a place on are the 64 bits that a history has there: of two numbers of 2 ^ j bytes, one above the other,
-- the bits stand one after another. By induction on j.
use Prim.Native.Nat.{ℕ, zero, suc, ◌+◌, ◌-◌, ◌*◌, ◌/◌, ◌%◌, ◌^◌, ◌≤◌, ◌<◌}
use native.Mathlib.Nat.{pow-suc}
use native.Mathlib.Omega.{arith}
use mathlib.Core.Path.{◌≡◌, ap, ap₂, ◌∙◌}
use mathlib.Core.Logic.{⊎_elim}
use mathlib.Core.List.{List}
use lib.Dec.{ltb}
use lib.ListN.{length, get_or, take, drop}
use Rattle.std.proofs.lemmas.List.{get_or-take, get_or-drop}
use borrow.Author.Tests.{ltb-true, ltb-false}
use Rattle.bits.specs.Bits.{bit, mask_below}
use Rattle.bits.proofs.Booleans.{decide}
use Rattle.bits.proofs.BitLaws.{bit_above, above_lt}
use Rattle.bits.proofs.Masks.{mask_of_bits}
use Rattle.policy.specs.History.{bit_at}
use Rattle.history.specs.Words.{bytes_at, word_at}

-- the number of eight bytes that are in order those from the place on, the first lowest
word_of : (h chunk : List ℕ) (at : ℕ) {x : ℕ} → ((i j : ℕ) → i < 8 → j ≡ at + i → get_or chunk i 0 ≡ get_or h j 0)
    → x
    ≡ get_or chunk 0 0 + get_or chunk 1 0 * 256 + get_or chunk 2 0 * 65536 + get_or chunk 3 0 * 16777216 + get_or chunk 4 0 * 4294967296
    + get_or chunk 5 0 * 1099511627776
    + get_or chunk 6 0 * 281474976710656
    + get_or chunk 7 0 * 72057594037927936
    → x ≡ word_at h at
unfolding word_at bytes_at
word_of h chunk at each e =
    let b0 = each 0 at (omega arith) (omega arith) in
    let b1 = each 1 (at + 1) (omega arith) (omega arith) in
    let b2 = each 2 (at + 2) (omega arith) (omega arith) in
    let b3 = each 3 (at + 2 + 1) (omega arith) (omega arith) in
    let b4 = each 4 (at + 4) (omega arith) (omega arith) in
    let b5 = each 5 (at + 4 + 1) (omega arith) (omega arith) in
    let b6 = each 6 (at + 4 + 2) (omega arith) (omega arith) in
    let b7 = each 7 (at + 4 + 2 + 1) (omega arith) (omega arith) in
    omega (arith, e, b0, b1, b2, b3, b4, b5, b6, b7)

-- the same of the first eight bytes of what follows the place
pub word_of_chunk : (h chunk : List ℕ) (at : ℕ) {x : ℕ} → at + 8 ≤ length h → chunk ≡ take 8 (take (length h - at) (drop at h))
    → x
    ≡ get_or chunk 0 0 + get_or chunk 1 0 * 256 + get_or chunk 2 0 * 65536 + get_or chunk 3 0 * 16777216 + get_or chunk 4 0 * 4294967296
    + get_or chunk 5 0 * 1099511627776
    + get_or chunk 6 0 * 281474976710656
    + get_or chunk 7 0 * 72057594037927936
    → x ≡ word_at h at
word_of_chunk h chunk at there same =
    word_of h chunk at (λ i j l place.
    rw (same, place)
    (get_or-take 8 (take (length h - at) (drop at h)) i 0 l ∙ get_or-take (length h - at) (drop at h) i 0 (omega arith)
    ∙ get_or-drop at h i 0))

module _ (h : List ℕ) (small : (i : ℕ) → get_or h i 0 < 256) where
  bytes_lt : (j at : ℕ) → bytes_at j h at < 2 ^ (8 * 2 ^ j)
  unfolding bytes_at
  bytes_lt zero at = small at
  bytes_lt (suc j) at =
      let w = 8 * 2 ^ j in
      let twice : w + w ≡ 8 * 2 ^ suc j = omega (arith, pow-suc 2 j) in
      rw twice at (above_lt w w (bytes_at j h at) (bytes_at j h (at + 2 ^ j)) (bytes_lt j at) (bytes_lt j (at + 2 ^ j)))

  bytes_bit : (j at k : ℕ) → k < 8 * 2 ^ j → bit (bytes_at j h at) k ≡ bit_at h (8 * at + k)
  unfolding bytes_at bit_at
  bytes_bit zero at k l =
      let byte : at ≡ (8 * at + k) / 8 = omega arith in
      let digit : k ≡ (8 * at + k) % 8 = omega arith in
      ap₂ (λ (i j : ℕ). bit (get_or h i 0) j) byte digit
  bytes_bit (suc j) at k l =
      let w = 8 * 2 ^ j in
      bit_above w (bytes_at j h at) (bytes_at j h (at + 2 ^ j)) k (bytes_lt j at)
      ∙ ⊎_elim
      (λ y. rw y (bytes_bit j at k (ltb-true k w y)))
      (λ n.
      let from = ltb-false k w n in
      let place : 8 * (at + 2 ^ j) + (k - w) ≡ 8 * at + k = omega arith in
      rw n (bytes_bit j (at + 2 ^ j) (k - w) (omega (arith, pow-suc 2 j)) ∙ ap (bit_at h) place))
      (decide (ltb k w))

-- bit k of the word from a place on is the history's bit k after those of the bytes before the place
pub word_bit : (h : List ℕ) (at k : ℕ) → ((i : ℕ) → get_or h i 0 < 256) → k < 64 → bit (word_at h at) k ≡ bit_at h (8 * at + k)
unfolding word_at
word_bit h at k small l = bytes_bit h small 3 at k l

-- the word is the set of the history's bits that are set there
pub word_mask : (h : List ℕ) (at : ℕ) → ((i : ℕ) → get_or h i 0 < 256) → word_at h at ≡ mask_below 64 (λ k. bit_at h (8 * at + k))
unfolding word_at
word_mask h at small = mask_of_bits 64 (bytes_at 3 h at) _ (bytes_lt h small 3 at) (λ k l. bytes_bit h small 3 at k l)
