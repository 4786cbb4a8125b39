-- `nothing` is no request: kind 0 is none of the four.
use mathlib.Core.Path.{refl}
use Rattle.request.specs.Parsed.{request_for, as_request}
use Rattle.request.proofs.nothing.Goals as goal

pub returns : goal.returns
unfolding request_for as_request
returns c = (refl, refl)
