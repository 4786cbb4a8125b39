-- `rows` stores the sets one after another: before turn i those of the jobs below i.
use Prim.Native.Nat.{◌-◌, ◌≤◌}
use mathlib.Core.Bool.{not}
use Rattle.bits.specs.Bits.{mask_below}
use Rattle.recorded.specs.Gathering.{FirstAre}
use Rattle.listed.specs.Pairs.{precedes, side_at}
use Rattle.listed.proofs.pairs.rows.Given as goal

abbrev pub invariant-loop-i : goal.invariant-loop-i
invariant-loop-i l =
    (l.i ≤ l.n) × FirstAre 64 l.i (λ k. mask_below l.n (λ j. not (precedes (side_at l.sides k) (side_at l.sides j)))) l.all

abbrev pub decreases-loop-i : goal.decreases-loop-i
decreases-loop-i l =
    l.n - l.i
