-- `holders_of` answers the persons outside the users of the rights beyond those given.
use Rattle.gathering.proofs.RoleLaws.{holds_is}
use Rattle.gathering.proofs.roles.holders_of.Goals as goal

pub returns : goal.returns
returns c =
    holds_is _ _ _ _ c.requires c.outside.ensures _ _ c.among.ensures c.outside-2.ensures
