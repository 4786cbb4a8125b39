-- `led_steps` joins what each step leads to: before turn p the set has the steps to which a step below p leads.
use Prim.Native.Nat.{◌≤◌}
use mathlib.Core.Path.{◌≡◌}
use Rattle.pipeline.proofs.NextLaws.{next_below}
use Rattle.pipeline.proofs.led_steps.Given as goal

abbrev pub invariant-loop-p : goal.invariant-loop-p
invariant-loop-p l =
    (l.p ≤ 16) × (l.next ≡ next_below l.steps l.done l.p)
