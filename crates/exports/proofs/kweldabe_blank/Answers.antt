-- `kweldabe_blank` is `blank_by` and leaves `blanked_by` of what loading returned: nothing changes for a refused book, and otherwise
-- `loaded::blank` says both.
use Rattle.exports.proofs.Books.{loaded_tables, blank_refused, blank_loaded}
use Rattle.exports.proofs.kweldabe_blank.Goals as goal

pub returns-then-given-ne-GRANTED : goal.returns-then-given-ne-GRANTED
returns-then-given-ne-GRANTED c = blank_refused c.load-given.ensures c.if-given-ne-GRANTED.true _

pub invariant_of-t : goal.invariant_of-t
invariant_of-t c = record { given = loaded_tables _ c.load-given.ensures c.if-given-ne-GRANTED.false }

pub returns : goal.returns
returns c =
    rw c.number_of.ensures (blank_loaded c.load-given.ensures c.if-given-ne-GRANTED.false _ _ _ c.blank.ensures)
