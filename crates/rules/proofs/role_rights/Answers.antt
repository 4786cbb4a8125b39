-- `role_rights` has the rights of each role: `map` gives for each element what the closure answers of it.
use Rattle.std.proofs.Common.{rules}
use Rattle.policy.specs.Tables.{no_role}
use Rattle.rules.proofs.role_rights.Goals as goal

pub returns : goal.returns
returns c =
    record {
      size = c.map.ensures.items.long;
      at = λ k l. let (p, q, called) = c.map.ensures.items.at k no_role 0 l in search rules;
    }
