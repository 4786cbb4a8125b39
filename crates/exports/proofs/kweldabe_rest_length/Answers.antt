-- `kweldabe_rest_length` is the length of what `monitor::rest` returns, which is `rest_of`.
use mathlib.Core.Path.{ap}
use lib.ListN.{length}
use Rattle.exports.proofs.kweldabe_rest_length.Goals as goal

pub returns : goal.returns
returns c = ap length c.rest-rest.ensures
