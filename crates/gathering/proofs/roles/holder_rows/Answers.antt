-- `holder_rows` has the rows that the closure gives.
use Rattle.gathering.proofs.RoleLaws.{rows_ext}
use borrow.Author.Rules.{rules}
use Rattle.gathering.proofs.roles.holder_rows.Goals as goal

pub returns : goal.returns
returns c = rows_ext _ c.rows_by.ensures (λ k v l p. search rules)
