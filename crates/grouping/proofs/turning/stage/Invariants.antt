-- `stage` stores the rows one after another: before turn i the first 2 * i rows are those of the stage.
use Prim.Native.Nat.{◌*◌, ◌≤◌}
use Rattle.recorded.specs.Gathering.{FirstAre}
use Rattle.grouping.specs.Turning.{stage_row}
use Rattle.grouping.proofs.turning.stage.Given as goal

abbrev pub invariant-loop-i : goal.invariant-loop-i
invariant-loop-i g l =
    (l.i ≤ 32) × FirstAre 64 (2 * l.i) (stage_row g.row.WIDTH l.rows) l.out
