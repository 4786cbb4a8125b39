-- `Level::compartments` answers the compartments: the mask 2 ^ 12 - 1 keeps the remainder by 2 ^ 12.
use lib.Bits.{and_mask}
use Rattle.level.specs.Levels.{compartments_of}
use Rattle.level.proofs.Level.compartments.Goals as goal

pub returns : goal.returns
unfolding compartments_of
returns c = and_mask c.args.self.0 12
