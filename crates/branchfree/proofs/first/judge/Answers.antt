-- `judge` is the first check that fails: each check has its bit where the test of its rule fails, by its own contract.
use mathlib.Core.Path.{◌∙◌}
use mathlib.Core.Bool.{not}
use Rattle.policy.specs.Request.{has_place}
use Rattle.branchfree.specs.Kinds.{asks_level}
use Rattle.branchfree.specs.Failing.{failing_of}
use Rattle.branchfree.proofs.FailingLaws.{negated}
use Rattle.branchfree.proofs.first.judge.Goals as goal

pub returns : goal.returns
unfolding failing_of
returns g c = (
  c.first_check.ensures.0,
  λ q a b m n asked row out counts l k rules has.
      let args = c.args in
      let sets = args.asked in
      c.first_check.ensures.1
      (failing_of q args.mask a b m n asked sets.counted sets.class args.firm sets.holding sets.holders sets.next
      args.at.step)
      (c.unknown_check-unknown.ensures a b m n (not (has_place q)) l k rules has (out ∙ negated (has_place q)))
      (c.level_check-level.ensures a b m n (asks_level q) l k rules has (c.row-asks.ensures ∙ row.asks))
      (c.others_check-others.ensures q asked row counts),
)
