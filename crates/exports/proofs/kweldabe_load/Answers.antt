-- `kweldabe_load` packs what `monitor::load` returns, which is `load_book`.
use mathlib.Core.Path.{◌∙◌}
use Rattle.exports.proofs.Books.{load_packed_lem}
use Rattle.exports.proofs.kweldabe_load.Goals as goal

pub returns : goal.returns
returns c = c.pack_load.ensures ∙ load_packed_lem c.load-given.ensures
