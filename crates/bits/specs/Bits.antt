-- Bits of a number, bit 0 lowest. A set of small numbers is the number whose bits are its members.
use Rattle.std.specs.Prelude.{ℕ, ◌-◌, ◌/◌, ◌%◌, ◌^◌, Bool, cond, eqb}
use Rattle.std.specs.Int.Bits.{bit_or}
use Rattle.bits.specs.Bounded.{fold_below}

-- bit k of n: whether k is in the set n
unfoldable pub bit : ℕ → ℕ → Bool
bit n k = eqb (n / 2 ^ k % 2) 1

-- n with bit k set: the set n with k in it
unfoldable pub with_bit : ℕ → ℕ → ℕ
with_bit n k = bit_or n (2 ^ k)

-- n with bit k cleared: the set n without k in it
unfoldable pub without_bit : ℕ → ℕ → ℕ
without_bit n k = cond (bit n k) (n - 2 ^ k) n

-- the set m, with k in it where p holds of k
unfoldable pub with_bit_if : (ℕ → Bool) → ℕ → ℕ → ℕ
with_bit_if p k m = cond (p k) (with_bit m k) m

-- the set of the numbers below n of which p holds
unfoldable pub mask_below : ℕ → (ℕ → Bool) → ℕ
mask_below n p = fold_below n (with_bit_if p) 0

-- f at the members of a set that are below n, from the lowest on, each on what the one before gave; a at the start
unfoldable pub fold_set : {A : Type 0} → ℕ → ℕ → (ℕ → A → A) → A → A
fold_set n set f a = fold_below n (λ k x. cond (bit set k) (f k x) x) a
