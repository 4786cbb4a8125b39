-- `kweldabe_judge` is `judge_by` of what loading returned: a refused book's number, or what `loaded::judge` says by the loaded tables.
use mathlib.Core.Path.{◌∙◌}
use Rattle.exports.proofs.Books.{loaded_tables, judge_refused, judge_loaded}
use Rattle.exports.proofs.kweldabe_judge.Goals as goal

pub returns-then-given-ne-GRANTED : goal.returns-then-given-ne-GRANTED
returns-then-given-ne-GRANTED c = judge_refused c.load-given.ensures c.if-given-ne-GRANTED.true _ _

pub invariant_of-t : goal.invariant_of-t
invariant_of-t c = record { given = loaded_tables _ c.load-given.ensures c.if-given-ne-GRANTED.false }

pub returns : goal.returns
returns c = c.number_of.ensures ∙ c.judge.ensures ∙ judge_loaded c.load-given.ensures c.if-given-ne-GRANTED.false _ _
