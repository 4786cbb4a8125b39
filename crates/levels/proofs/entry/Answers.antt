-- `levels::entry` is the person's two bytes as one number, the low one first.
use native.Mathlib.Omega.{arith}
use Rattle.policy.specs.Levels.{level_at}
use Rattle.levels.proofs.entry.Goals as goal

pub returns : goal.returns
unfolding level_at
returns c = omega (arith, c.from_le_bytes.ensures)
