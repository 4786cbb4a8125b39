-- What a bit past the end of a history is. The laws hold at every length.
use Prim.Native.Nat.{ℕ, ◌/◌, ◌%◌, ◌≤◌}
use mathlib.Core.Path.{◌≡◌}
use mathlib.Core.Bool.{false}
use mathlib.Core.List.{List}
use lib.ListN.{length, get_or-eq_default}
use lib.Seq.{set_out}
use Rattle.bits.proofs.BitLaws.{bit_zero}
use Rattle.policy.specs.History.{bit_at, with_bit_at}

-- no bit is set
pub bit_past : (h : List ℕ) (i : ℕ) → length h ≤ i / 8 → bit_at h i ≡ false
unfolding bit_at
bit_past h i l = rw (get_or-eq_default h 0 l) (bit_zero (i % 8))

-- setting a bit changes nothing
pub with_past : (h : List ℕ) (i : ℕ) → length h ≤ i / 8 → with_bit_at h i ≡ h
unfolding with_bit_at
with_past h i l = set_out h (i / 8) _ l
