-- `led_by` answers the steps that a step enables, by cases on whether it leads to others.
use Prim.Native.Nat.{◌%◌}
use mathlib.Core.Path.{◌≡◌, sym, ap, ◌∙◌}
use mathlib.Core.Bool.{Bool, true, false, ◌&&◌}
use lib.Bits.{bit_and}
use lib.Dec.{eqb}
use Rattle.bits.specs.Bits.{bit}
use Rattle.pipeline.proofs.NextLaws.{led_some, led_none}
use borrow.Author.Rules.{rules}
use Rattle.pipeline.proofs.led_by.Goals as goal

pub returns-then-bit-enabled : goal.returns-then-bit-enabled
returns-then-bit-enabled c =
    let args = c.args in
    let test : bit args.done (args.p % 16) && eqb (bit_and args.enabled args.done) 0 ≡ true =
    sym (ap (λ (b : Bool). b && eqb (bit_and args.enabled args.done) 0) c.bit.ensures)
    ∙ c.if-bit-enabled.true in
    led_some _ _ _ (search rules) test

pub returns : goal.returns
returns c =
    let args = c.args in
    let test : bit args.done (args.p % 16) && eqb (bit_and args.enabled args.done) 0 ≡ false =
    sym (ap (λ (b : Bool). b && eqb (bit_and args.enabled args.done) 0) c.bit.ensures)
    ∙ c.if-bit-enabled.false in
    led_none _ _ _ test
