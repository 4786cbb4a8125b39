-- `past::rights_with` answers the rights: 16 bits of steps shifted up by 48 stay within 64 bits.
use Prim.Native.Nat.{ℕ, ◌*◌, ◌^◌, ◌%◌}
use native.Mathlib.Omega.{arith}
use mathlib.Core.Path.{◌≡◌, ap, ◌∙◌}
use lib.Bits.{bit_or}
use lib.Dec.{lit≤}
use lib.Pow.{shl_exact}
use Rattle.recorded.specs.Recorded.{with_bit_if}
use Rattle.past.specs.Turns.{rights_with}
use Rattle.past.proofs.rights_with.Goals as goal

pub returns : goal.returns
unfolding rights_with
returns c =
    let args = c.args in
    let word = c.from in
    let shifted : word.result * 2 ^ 48 % 2 ^ 64 ≡ args.steps * 2 ^ 48 =
    shl_exact 16 48 64 (omega (arith, word.ensures)) (lit≤ tt) ∙ ap (λ (n : ℕ). n * 2 ^ 48) word.ensures in
    c.with_bit64_if.ensures ∙ ap (λ (n : ℕ). with_bit_if args.starts (bit_or args.rights n) 32) shifted
