-- `rows_by` stores the rows one after another: before turn k those of the roles below k.
use Prim.Native.Nat.{◌≤◌}
use Rattle.gathering.specs.Users.{Rows}
use Rattle.gathering.proofs.roles.rows_by.Given as goal

abbrev pub invariant-loop-k : goal.invariant-loop-k
invariant-loop-k g l =
    (l.k ≤ 32) × Rows l.k (λ k v. goal.F-post g l.row k v) l.rows
