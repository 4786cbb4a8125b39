-- `rights::some_role_holds` asks for a role that holds the rights and the new one.
use mathlib.Core.Path.{◌∙◌}
use Rattle.past.proofs.rights.some_role_holds.Goals as goal

pub returns : goal.returns
returns c = c.some_role_covers.ensures ∙ rw c.with_bit.ensures
