-- `outside` takes a set from the set of all: each bit of the rest is the other one.
use Rattle.gathering.proofs.RoleLaws.{outside_is}
use borrow.Author.Rules.{rules}
use Rattle.gathering.proofs.roles.outside.Goals as goal

pub returns : goal.returns
returns c = λ k l. outside_is _ k (search rules) l
