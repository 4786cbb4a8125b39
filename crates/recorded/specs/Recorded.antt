-- What the bytes of a history have of one person: a read, a write or a step of a folder, and a start; and the bounds of a folder's entry.
use Rattle.std.specs.Prelude.{ℕ, ◌<◌, ◌≡◌, Bool, true, cond, ◌&&◌, ◌||◌, List}
use Rattle.bits.specs.Bits.{bit, with_bit}
use Rattle.bits.specs.Bounded.{any_below}
use Rattle.policy.specs.declared.Folder.{Folder}
use Rattle.policy.specs.History.{bit_at}
use Rattle.policy.specs.Request.{read, write, start, step, index}

-- a declared folder's firm and kind are in range
pub record EntryInBounds (e : Folder) : Type 0 where
  pub firm : e.declared ≡ true → e.firm < 64
  pub kind : e.declared ≡ true → e.kind < 16

-- n, with bit k set if the test holds
abbrev pub with_bit_if : Bool → ℕ → ℕ → ℕ
with_bit_if add n k = cond add (with_bit n k) n

-- the history has the bit of a read of folder o by person s, of a write, of step p on it, and of some step on it
unfoldable pub read_at : List ℕ → ℕ → ℕ → Bool
read_at h s o = bit_at h (index (read s o))

unfoldable pub written_at : List ℕ → ℕ → ℕ → Bool
written_at h s o = bit_at h (index (write s o))

unfoldable pub step_at : List ℕ → ℕ → ℕ → ℕ → Bool
step_at h s o p = bit_at h (index (step s p o))

unfoldable pub stepped_at : List ℕ → ℕ → ℕ → Bool
stepped_at h s o = any_below 16 (step_at h s o)

-- person s read folder o, wrote in it or stepped on it
unfoldable pub touched_at : List ℕ → ℕ → ℕ → Bool
touched_at h s o = read_at h s o || written_at h s o || stepped_at h s o

-- person s started a person of a set
unfoldable pub started : ℕ → List ℕ → ℕ → Bool
started persons h s = any_below 64 (λ u. bit persons u && bit_at h (index (start s u)))
