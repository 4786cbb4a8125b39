-- `levels::set_entry` writes the two bytes of a level in the person's place, the low one first.
use Prim.Native.Nat.{◌/◌, ◌%◌}
use native.Mathlib.Omega.{arith}
use mathlib.Core.Path.{◌≡◌}
use Rattle.policy.specs.Levels.{with_level_at}
use Rattle.levels.proofs.set_entry.Goals as goal

pub returns : goal.returns
unfolding with_level_at
returns c =
    let high : c.args.level.0 / 256 % 256 ≡ c.args.level.0 / 256 = omega arith in
    rw (c.to_le_bytes.ensures, high)
