-- `levels::level_over` answers the level after 64 folders: before each turn the folders that are left lead to it.
use Prim.Native.Nat.{◌+◌}
use Rattle.packed.specs.Packed.{tables_of}
use Rattle.policy.specs.Tables.{folder_at}
use Rattle.recorded.specs.Levels.{level_after, level_over}
use Rattle.recorded.specs.Visits.{Leads}
use Rattle.recorded.proofs.levels.level_over.Given as goal

abbrev pub invariant-loop-i : goal.invariant-loop-i
invariant-loop-i l =
    let t = tables_of l.t in
    Leads (λ i. level_after (folder_at t (l.first + i))) (level_over t l.set l.first 64 l.initial.level.0) l.i-iterator.0 l.level.0
