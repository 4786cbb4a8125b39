-- The words of a history: eight bytes from a place on, lowest first.
use Rattle.std.specs.Prelude.{ℕ, zero, suc, ◌+◌, ◌*◌, ◌^◌, List, get_or}

-- the number that the 2 ^ j bytes from a place on hold: that of the first half of them, and above it that of the other half
unfoldable pub bytes_at : ℕ → List ℕ → ℕ → ℕ
bytes_at zero h at = get_or h at 0
bytes_at (suc j) h at = bytes_at j h at + 2 ^ (8 * 2 ^ j) * bytes_at j h (at + 2 ^ j)

-- the 64 bits of the eight bytes
unfoldable pub word_at : List ℕ → ℕ → ℕ
word_at h at = bytes_at 3 h at
