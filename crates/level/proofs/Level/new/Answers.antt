-- `Level::new` makes the level of its rank and compartments: the masks keep 4 and 12 bits, the rank is shifted past the compartments
-- and stays within 16 bits, and "or" of numbers with no bit in common is their sum.
use Prim.Native.Nat.{ℕ, ◌*◌, ◌%◌}
use native.Mathlib.Omega.{arith}
use mathlib.Core.Path.{ap, ap₂, ◌∙◌}
use lib.Bits.{bit_or, and_mask, or_shifted}
use lib.Dec.{lit≤}
use lib.Pow.{shl_exact}
use Rattle.level.specs.Levels.{level_of}
use Rattle.level.proofs.Level.new.Goals as goal

pub returns : goal.returns
unfolding level_of
returns c =
    let rank = c.args.rank in
    let compartments = c.args.compartments in
    ap₂ bit_or (ap (λ (x : ℕ). (x * 4096) % 65536) (and_mask rank 4) ∙ shl_exact 4 12 16 (omega arith) (lit≤ tt))
    (and_mask compartments 12)
    ∙ or_shifted (rank % 16) 12 (compartments % 4096) (omega arith)
