-- `sets::set_of` makes the set of a level: a rank is below 16, so that no bit is lost, and "or" of parts in bits of their own is their sum.
use Prim.Native.Nat.{◌<◌}
use native.Mathlib.Omega.{arith}
use mathlib.Core.Path.{◌∙◌}
use lib.Pow.{pow_pos}
use Rattle.level.proofs.SetLaws.{rank_lt, one_shifted, made}
use Rattle.level.proofs.sets.set_of.Goals as goal

pub overflow_shl-result : goal.overflow_shl-result
overflow_shl-result c =
    let level = c.args.level in
    omega (arith, c.rank.ensures, rank_lt level.0 (omega arith))

pub overflow_sub-result : goal.overflow_sub-result
overflow_sub-result c =
    let level = c.args.level in
    let most : c.rank.result < 64 = omega (arith, c.rank.ensures, rank_lt level.0 (omega arith)) in
    omega (arith, one_shifted c.rank.result most, pow_pos c.rank.result)

pub returns : goal.returns
returns c =
    made c.args.level.0 c.args.mark (omega arith) c.rank.ensures
    (c.from.ensures ∙ c.compartments.ensures) c.from-2.ensures
