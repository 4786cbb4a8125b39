-- `is_led_to` holds where some step leads to q: the numbers below 16 are asked one after another.
use mathlib.Core.Path.{refl, ◌∙◌}
use Rattle.std.proofs.lemmas.Iterator.{YieldsList-from_range}
use Rattle.std.proofs.lemmas.Iterator.Search.{any_from_yields_List}
use Rattle.pipeline.specs.Steps.{leads_among}
use Rattle.pipeline.proofs.StepLaws.{any_listed}
use borrow.Author.Rules.{rules}
use Rattle.pipeline.proofs.is_led_to.Goals as goal

pub returns : goal.returns
unfolding leads_among
returns c =
    let args = c.args in
    any_from_yields_List (leads_among args.steps.now args.done args.q) _ _ _ c.any.ensures.ran
    (YieldsList-from_range 0 16 16 refl refl) (λ x b q k. search rules)
    ∙ any_listed _ 16
