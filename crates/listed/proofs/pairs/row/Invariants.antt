-- `row` puts each job that x may not come before into the set, one after another; there is none where no rule asks about x.
use Prim.Native.Nat.{◌-◌, ◌≤◌}
use mathlib.Core.Path.{◌≡◌}
use mathlib.Core.Bool.{not}
use Rattle.bits.specs.Bits.{mask_below}
use Rattle.listed.specs.Pairs.{precedes, side_at}
use Rattle.listed.proofs.pairs.row.Given as goal

abbrev pub invariant-loop-j : goal.invariant-loop-j
invariant-loop-j l =
    (l.j ≤ l.n) × (l.kept ≡ mask_below l.j (λ k. not (precedes l.x (side_at l.sides k))))

abbrev pub decreases-loop-j : goal.decreases-loop-j
decreases-loop-j l =
    l.n - l.j
