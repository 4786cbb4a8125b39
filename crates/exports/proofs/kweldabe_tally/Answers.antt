-- `kweldabe_tally` meets `TallyBy` of what loading returned: nothing changes for a refused book, and otherwise `tallying::tally` says all
-- three.
use Rattle.exports.proofs.Books.{loaded_tables, tally_refused, tally_loaded}
use Rattle.exports.proofs.kweldabe_tally.Goals as goal

pub returns-then-given-ne-GRANTED : goal.returns-then-given-ne-GRANTED
returns-then-given-ne-GRANTED c = tally_refused c.load-given.ensures c.if-given-ne-GRANTED.true _ _ _ _ c.pack_run.ensures

pub invariant_of-t : goal.invariant_of-t
invariant_of-t c = record { given = loaded_tables _ c.load-given.ensures c.if-given-ne-GRANTED.false }

pub returns : goal.returns
returns c =
    tally_loaded c.load-given.ensures c.if-given-ne-GRANTED.false _ _ _ _ _ _ _ c.tally-tallied.ensures c.pack_run-2.ensures
