-- `person_words` has at each place the word of that person, as the closure finds it.
use Rattle.grouping.proofs.FillLaws.{filled}
use borrow.Author.Rules.{rules}
use Rattle.grouping.proofs.words.person_words.Goals as goal

pub returns : goal.returns
returns c = filled _ _ 64 (λ i y q l k. search rules) c.from_fn.ensures.items
