-- What is missing is a refusal: where an `Option` is none, what its `ok_or` refuses is what was named.
use mathlib.Core.Path.{◌≡◌, ap}
use Rattle.std.specs.Prelude.{Option, None, Result, Ok, Err}
use Rattle.std.specs.Option.{ok_or}
use Rattle.policy.specs.declared.answer.Refusal.{Refusal}

abbrev refusal_or : {X : Type 0} → Refusal → Result X Refusal → Refusal
refusal_or other (Ok x) = other
refusal_or other (Err refusal) = refusal

pub none_refuses : {X : Type 0} (o : Option X) {refusal found : Refusal} → o ≡ None → Err found ≡ ok_or o refusal → found ≡ refusal
none_refuses o {refusal} none is = ap (refusal_or refusal) (rw none at is)
