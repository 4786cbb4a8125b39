-- `steps_permit` looks the first step up among those that the second enables, where both are steps on one folder.
use Prim.Native.Nat.{ℕ, ◌%◌}
use mathlib.Core.Path.{ap, ◌∙◌}
use mathlib.Core.Bool.{not}
use Rattle.bits.specs.Bits.{bit}
use Rattle.listed.specs.Pairs.{steps_pass}
use Rattle.listed.proofs.Implied.{passes_unasked, passes_asked}
use Rattle.listed.proofs.pairs.steps_permit.Goals as goal

pub returns-then-not-x-y : goal.returns-then-not-x-y
unfolding steps_pass
returns-then-not-x-y c = passes_unasked _ _ c.if-not-x-y.true

pub returns-else-not-x-y : goal.returns-else-not-x-y
unfolding steps_pass
returns-else-not-x-y c =
    ap not (c.bit.ensures ∙ ap (λ (k : ℕ). bit c.args.y.enabled (k % 16)) c.from.ensures)
    ∙ passes_asked _ _ c.if-not-x-y.false
