-- `kweldabe_put` is `judge_by` and leaves `put_by` of what loading returned: nothing changes for a refused book, and otherwise
-- `loaded::put` says both.
use mathlib.Core.Path.{◌∙◌}
use Rattle.exports.proofs.Books.{loaded_tables, judge_refused, judge_loaded, put_refused, put_loaded}
use Rattle.exports.proofs.kweldabe_put.Goals as goal

pub returns-then-given-ne-GRANTED : goal.returns-then-given-ne-GRANTED
returns-then-given-ne-GRANTED c = (
  judge_refused c.load-given.ensures c.if-given-ne-GRANTED.true _ _,
  put_refused c.load-given.ensures c.if-given-ne-GRANTED.true _ _,
)

pub invariant_of-t : goal.invariant_of-t
invariant_of-t c = record { given = loaded_tables _ c.load-given.ensures c.if-given-ne-GRANTED.false }

pub returns : goal.returns
returns c =
    let same = c.load-given.ensures in (
      c.number_of.ensures ∙ c.put.ensures.0 ∙ judge_loaded same c.if-given-ne-GRANTED.false _ _,
      c.put.ensures.1 ∙ put_loaded same c.if-given-ne-GRANTED.false _ _,
    )
