-- `others_check` has the bits of the three rules, each by its own contract; one that is not asked about is not in force, and has none.
use mathlib.Core.Path.{ap₂, ◌∙◌}
use lib.Bits.{bit_or}
use Rattle.bits.specs.Bits.{bit}
use Rattle.policy.specs.Tables.{wall_rule, roles_rule, pipeline_rule}
use Rattle.branchfree.specs.Kinds.{is_step}
use Rattle.branchfree.specs.Failing.{others_of}
use Rattle.branchfree.proofs.FailingLaws.{not_in_force, unasked}
use Rattle.branchfree.proofs.first.others_check.Goals as goal
use Rattle.branchfree.proofs.first.others_check.Goals.{
  then-this-ne0,
  else-this-ne0,
  then-this-ne0-2,
  else-this-ne0-2,
  then-this-ne0-3,
  else-this-ne0-3,
}

pub returns : goal.returns
unfolding others_of
returns g c =
    λ q counted row counts.
    ap₂ bit_or
    (ap₂ bit_or
    (elim c.if-this-ne0.branch [
      | then-this-ne0 w ↦ w.wall-is ∙ w.wall_check-wall.ensures counted counts
      | else-this-ne0 w ↦ w.wall-is ∙ not_in_force (bit c.args.mask wall_rule) _ 2 (unasked _ _ c.requires.walls w.if-this-ne0.false)
    ])
    (elim c.if-this-ne0-2.branch [
      | then-this-ne0-2 w ↦ w.roles-is ∙ w.roles_check-roles.ensures
      | else-this-ne0-2 w ↦ w.roles-is ∙ not_in_force (bit c.args.mask roles_rule) _ 16 (unasked _ _ c.requires.rights w.if-this-ne0-2.false)
    ]))
    (elim c.if-this-ne0-3.branch [
      | then-this-ne0-3 w ↦ w.pipeline-is ∙ w.pipeline_check-pipeline.ensures (is_step q) (w.row.ensures ∙ row.step)
      | else-this-ne0-3 w ↦ w.pipeline-is ∙ not_in_force (bit c.args.mask pipeline_rule) _ 32
          (unasked _ _ c.requires.steps w.if-this-ne0-3.false)
    ])
