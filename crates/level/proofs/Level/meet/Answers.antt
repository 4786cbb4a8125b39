-- `Level::meet` answers the meet: the rank above the compartments is the rank shifted up, so that the smaller of two such is the smaller
-- rank shifted up, and "or" with the common compartments, which stand below it, is their sum.
use Prim.Native.Nat.{ℕ, ◌*◌, ◌<◌, min}
use native.Mathlib.Omega.{arith}
use mathlib.Core.Path.{◌≡◌, ap₂, ◌∙◌}
use lib.Bits.{bit_and, bit_or, or_shifted}
use Rattle.level.specs.Levels.{rank_of, compartments_of, level_of, meet_of}
use Rattle.level.proofs.LevelLaws.{rank_above, common_lt}
use borrow.Author.Rules.{rules}
use Rattle.level.proofs.Level.meet.Goals as goal

made : (a b : ℕ) {rank x y : ℕ} → a < 65536 → b < 65536 → rank ≡ min (bit_and a 61440) (bit_and b 61440) → x ≡ compartments_of 12 a
    → y ≡ compartments_of 12 b → bit_or rank (bit_and x y) ≡ meet_of 12 a b
unfolding meet_of level_of
made a b {rank} la lb smaller xs ys =
    let ranks : rank ≡ min (rank_of 12 a) (rank_of 12 b) * 4096 = omega (arith, rank_above 12 4 a la, rank_above 12 4 b lb) in
    ap₂ bit_or ranks (ap₂ bit_and xs ys) ∙ or_shifted (min (rank_of 12 a) (rank_of 12 b)) 12 _ (common_lt 12 a b)

pub compartments-requires-2 : goal.compartments-requires-2
compartments-requires-2 c =
    search rules

-- the meet, of the smaller rank in its place and the compartments of both

pub returns : goal.returns
returns c =
    let start = c in
    let args = c.args in
    made args.self.0 args.other.0 (omega arith) (omega arith) c.min-rank.ensures
    c.compartments.ensures c.compartments-2.ensures
