-- `kweldabe_standing` packs `standing_by` of what loading returned: zeros for a refused book, and otherwise what `loaded::standing`
-- says.
use mathlib.Core.Path.{◌∙◌}
use Rattle.exports.proofs.Books.{loaded_tables, standing_refused, standing_loaded}
use Rattle.exports.proofs.kweldabe_standing.Goals as goal

pub returns-then-given-ne-GRANTED : goal.returns-then-given-ne-GRANTED
returns-then-given-ne-GRANTED c = c.pack_standing.ensures ∙ standing_refused c.load-given.ensures c.if-given-ne-GRANTED.true _ _

pub invariant_of-t : goal.invariant_of-t
invariant_of-t c = record { given = loaded_tables _ c.load-given.ensures c.if-given-ne-GRANTED.false }

pub returns : goal.returns
returns c =
    c.pack_standing-2.ensures
    ∙ standing_loaded c.load-given.ensures c.if-given-ne-GRANTED.false _ _ _ c.standing-found.ensures
