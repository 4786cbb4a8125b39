-- `rights::rights_of_accesses` answers the rights of reads and writes, or those found once no role holds them and the new right: after each
-- turn those of 64 folders more.
use Prim.Native.Nat.{◌*◌, ◌-◌, ◌%◌, ◌≤◌}
use Rattle.policy.specs.Request.{set_of}
use Rattle.past.specs.Found.{FoundOf}
use Rattle.past.specs.Past.{rights_below}
use Rattle.past.proofs.rights.rights_of_accesses.Given as goal

abbrev pub invariant-loop-half : goal.invariant-loop-half
invariant-loop-half l =
    (l.half ≤ 2) × FoundOf l.roles (l.right % 64) (rights_below l.t.tables (set_of l.h) l.s (64 * l.half)) l.rights

abbrev pub decreases-loop-half : goal.decreases-loop-half
decreases-loop-half l =
    2 - l.half
