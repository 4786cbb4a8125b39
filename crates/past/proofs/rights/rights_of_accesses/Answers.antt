-- `rights::rights_of_accesses` answers the rights of reads and writes, or those found once no role holds them and the new right: after each
-- turn those of 64 folders more.
use Prim.Native.Nat.{◌+◌, ◌*◌}
use native.Mathlib.Omega.{arith}
use mathlib.Core.Path.{◌≡◌}
use Rattle.policy.specs.Request.{set_of}
use Rattle.past.proofs.AccessRights.{rights_start}
use Rattle.past.proofs.FoundLaws.{found_whole}
use borrow.Author.Rules.{rules}
use Rattle.past.proofs.rights.rights_of_accesses.Goals as goal

pub loop-half-init : goal.loop-half-init
loop-half-init c = (search rules, found_whole (rights_start c.args.t.now.tables (set_of c.args.h.now) c.args.s))

pub rights_over-rights-requires : goal.rights_over-rights-requires
rights_over-rights-requires c =
    let start = c in (
      c.requires,
      omega arith,
      omega arith,
      c.loop-half.invariant.1,
    )

pub loop-half-preserved : goal.loop-half-preserved
loop-half-preserved c =
    let half = c.loop-half.half in
    let next : 64 * half + 64 ≡ 64 * (half + 1) = omega arith in (search rules, rw (← next) c.rights_over-rights.ensures)

pub returns : goal.returns
returns c = let all : c.loop-half.half ≡ 2 = omega arith in rw all at c.loop-half.invariant.1
