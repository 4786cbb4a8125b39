-- `set_by` puts the numbers in one after another: before turn k those below k that pass the test.
use Prim.Native.Nat.{ℕ, ◌<◌, ◌≤◌}
use mathlib.Core.Path.{◌≡◌}
use mathlib.Core.Bool.{Bool}
use Rattle.bits.specs.Bits.{mask_below}
use Rattle.bits.proofs.sets.set_by.Given as goal

abbrev pub invariant-loop-k : goal.invariant-loop-k
invariant-loop-k g l =
    (l.k ≤ 64)
    × ((P : ℕ → Bool) → ((k : ℕ) (b : Bool) → k < 64 → goal.F-post g l.test k b → b ≡ P k) → l.set ≡ mask_below l.k P)
