-- `access_words` has at each place the joined words of that person, as the closure finds them.
use Rattle.grouping.proofs.FillLaws.{filled}
use borrow.Author.Rules.{rules}
use Rattle.grouping.proofs.words.access_words.Goals as goal

pub returns : goal.returns
returns c = filled _ _ 64 (λ s y q l k. search rules) c.from_fn.ensures.items
