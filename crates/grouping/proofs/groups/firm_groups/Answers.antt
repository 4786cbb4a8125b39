-- `firm_groups` has at each place the group of that folder, as the closure finds it.
use Rattle.grouping.specs.Groups.{Grouped, firm_group}
use Rattle.grouping.proofs.FillLaws.{filled}
use Rattle.grouping.proofs.GroupLaws.{firms_grouped}
use borrow.Author.Rules.{rules}
use Rattle.grouping.proofs.groups.firm_groups.Goals as goal

grouped : (c : goal.After-from_fn-numbers) → Grouped (firm_group c.args.t.now.tables) c.from_fn-numbers.result
unfolding firm_group
grouped c = firms_grouped _ c.args.t.now.given (filled _ _ 128 (λ o g q l k. search rules) c.from_fn-numbers.ensures.items)

pub invariant_of-result : goal.invariant_of-result
invariant_of-result c = (grouped c).fit

pub returns : goal.returns
returns c = grouped c
