-- `steps::enabled` joins set after set.
use Rattle.std.proofs.Common.{rules, ◌≡◌, ◌∙◌}
use Rattle.std.proofs.iter.runs.Made.{chains}
use Rattle.std.specs.List.{fold}
use lib.Bits.{bit_or}
use Rattle.rulebook.specs.Steps.{enabled_below}
use Rattle.rulebook.proofs.ListLaws.{fold_listed}
use Rattle.rulebook.proofs.steps.enabled.Goals as goal

pub returns : goal.returns
unfolding enabled_below
returns c =
    let sets = c.args.sets.now in
    let all : c.fold.result ≡ fold bit_or 0 sets = search (rules, chains) in
    all ∙ fold_listed bit_or 0 sets 0 16 c.told-sets
