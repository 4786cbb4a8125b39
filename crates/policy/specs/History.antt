-- Histories (document 01, "History"): bytes, one bit for each possible request.
use Rattle.std.specs.Prelude.{ℕ, ◌/◌, ◌%◌, Bool, List, get_or, set, replicate}
use Rattle.bits.specs.Bits.{bit, with_bit}

-- the bytes of a history
abbrev pub history_bytes : ℕ
history_bytes = 18944

-- index i is bit i mod 8 of byte i / 8
unfoldable pub bit_at : List ℕ → ℕ → Bool
bit_at h i = bit (get_or h (i / 8) 0) (i % 8)

-- the history with the bit of index i set
unfoldable pub with_bit_at : List ℕ → ℕ → List ℕ
with_bit_at h i = set h (i / 8) (with_bit (get_or h (i / 8) 0) (i % 8))

-- a blank history is all zero
unfoldable pub zeros : ℕ → List ℕ
zeros n = replicate n 0
