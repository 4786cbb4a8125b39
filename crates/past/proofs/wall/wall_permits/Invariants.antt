-- `wall::wall_permits` answers what the wall says of an access: a public folder passes; of the folders that bear on the access one of the
-- own firm lets it pass, and before each turn none below the one reached is, and it is known whether one bears on the access at all.
use Prim.Native.Nat.{◌-◌, ◌≤◌}
use Rattle.past.specs.Wall.{Searched}
use Rattle.past.proofs.wall.wall_permits.Given as goal

abbrev pub invariant-loop-i : goal.invariant-loop-i
invariant-loop-i l =
    (l.i ≤ 128) × Searched l.t.tables l.h l.s l.class l.asked.firm l.i l.rival

abbrev pub decreases-loop-i : goal.decreases-loop-i
decreases-loop-i l =
    128 - l.i
