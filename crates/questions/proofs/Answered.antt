-- An answer has the number 0 exactly where nothing refuses: no refusal has it.
use Prim.Native.Nat.{ℕ}
use native.Mathlib.Omega.{arith}
use mathlib.Core.Path.{◌≡◌, refl, sym, ◌∙◌}
use mathlib.Core.Logic.{◌≢◌}
use mathlib.Core.Bool.{true, cond}
use lib.Dec.{eqb}
use borrow.Author.Tests.{eqb-true, ne_eqb}
use Rattle.std.specs.Prelude.{Result, Ok, Err, is_ok}
use Rattle.std.specs.Int.{from_bool}
use Rattle.policy.specs.declared.answer.Refusal.{Refusal}
use Rattle.policy.specs.Refusals.{refusal_number, number_of}

pub never_zero : (refusal : Refusal) → refusal_number refusal ≢ 0
never_zero refusal = grind arith

-- the test for a grant is that for the number 0
pub ok_zero : (answer : Result Unit Refusal) → is_ok answer ≡ eqb (number_of answer) 0
ok_zero (Ok _) = refl
ok_zero (Err refusal) = sym (ne_eqb (refusal_number refusal) 0 (never_zero refusal))

pub granted_zero : (answer : Result Unit Refusal) → is_ok answer ≡ true → number_of answer ≡ 0
granted_zero answer ok = eqb-true (number_of answer) 0 (sym (ok_zero answer) ∙ ok)

-- a grant counts as 1
pub counts_one : (answer : Result Unit Refusal) {g : ℕ} → g ≡ from_bool (is_ok answer) → g ≡ cond (eqb (number_of answer) 0) 1 0
counts_one (Ok _) e = e
counts_one (Err refusal) e = e ∙ sym (rw (ne_eqb (refusal_number refusal) 0 (never_zero refusal)))
