-- `kweldabe_run` meets `RunBy` of what loading returned: nothing changes for a refused book, and otherwise `loaded::run` says all
-- three.
use Rattle.exports.proofs.Books.{loaded_tables, run_refused, run_loaded}
use Rattle.exports.proofs.kweldabe_run.Goals as goal

pub returns-then-given-ne-GRANTED : goal.returns-then-given-ne-GRANTED
returns-then-given-ne-GRANTED c = run_refused c.load-given.ensures c.if-given-ne-GRANTED.true _ _ _ _ c.pack_run.ensures

pub invariant_of-t : goal.invariant_of-t
invariant_of-t c = record { given = loaded_tables _ c.load-given.ensures c.if-given-ne-GRANTED.false }

pub returns : goal.returns
returns c =
    run_loaded c.load-given.ensures c.if-given-ne-GRANTED.false _ _ _ _ _ _ _ c.run-ran.ensures c.pack_run-2.ensures
