-- What is lent to a call with another length refuses it: the history before the levels.
use Prim.Native.Nat.{ℕ}
use mathlib.Core.Path.{◌≡◌, sym}
use mathlib.Core.Logic.{◌≢◌}
use mathlib.Core.List.{List}
use lib.ListN.{length}
use Rattle.std.specs.Prelude.{Option, Some, None, Err, MatchOption}
use Rattle.std.specs.Option.{ok_or}
use Rattle.policy.specs.declared.answer.Refusal.{Refusal}
use Rattle.policy.specs.declared.answer.Refusal.TheVariants.{WrongLength, WrongLevelsLength}
use Rattle.policy.specs.declared.Tables.{Tables}
use Rattle.policy.specs.Refusals.{refusal_number}
use Rattle.policy.specs.Checks.{ladder}
use Rattle.policy.specs.History.{history_bytes}
use Rattle.policy.specs.Levels.{levels_bytes}
use Rattle.policy.specs.Calls.{state, call_checks}
use Rattle.loaded.proofs.CallLaws.{wrong_length, wrong_levels}

module _ (t : Tables) (h l : List ℕ) {B : Type 0} (P : B → Type 0) {refusal : Refusal} where
  pub history_refused : (lent : Option B) → Err refusal ≡ ok_or lent WrongLength → MatchOption lent (length h ≢ history_bytes) P
      → refusal_number refusal ≡ ladder (call_checks t (state h l))
  history_refused None e n = let is : refusal ≡ WrongLength = cc in rw is (sym (wrong_length t (state h l) n))
  history_refused (Some y) e n = cc

  pub levels_refused : length h ≡ history_bytes → (lent : Option B) → Err refusal ≡ ok_or lent WrongLevelsLength
      → MatchOption lent (length l ≢ levels_bytes) P → refusal_number refusal ≡ ladder (call_checks t (state h l))
  levels_refused size None e n = let is : refusal ≡ WrongLevelsLength = cc in rw is (sym (wrong_levels t (state h l) size n))
  levels_refused size (Some y) e n = cc
