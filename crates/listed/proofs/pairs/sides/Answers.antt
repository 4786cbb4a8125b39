-- `sides` stores what is looked up one job after another: before turn i the sides of the jobs below i.
use native.Mathlib.Omega.{arith}
use mathlib.Core.Path.{◌≡◌, refl, ap, ◌∙◌}
use Rattle.listed.specs.Pairs.{side_of}
use Rattle.listed.proofs.StoredSides.{sides_none, sides_more}
use borrow.Author.Rules.{rules}
use Rattle.listed.proofs.pairs.sides.Goals as goal

pub loop-i-init : goal.loop-i-init
loop-i-init c = (search rules, sides_none _ _ _ refl)

pub loop-i-preserved : goal.loop-i-preserved
loop-i-preserved c =
    let turn = c in (
      search rules,
      sides_more _ _ _ _ _ c.loop-i.invariant.1 (omega arith)
          (c.looked_up.ensures ∙ ap (side_of c.args.t.now) c.job_at.ensures),
    )

pub returns : goal.returns
returns c = let all : c.loop-i.i ≡ c.args.n = omega arith in rw all at c.loop-i.invariant.1
