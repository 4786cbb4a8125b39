-- The checks that every call on any tables starts with: a history of another length is refused before levels of another length, and these
-- before tables that no load gives.
use mathlib.Core.Path.{◌≡◌}
use mathlib.Core.Bool.{false}
use lib.ListN.{length}
use borrow.Author.Tests.{eq-eqb}
use Rattle.policy.specs.declared.Tables.{Tables}
use Rattle.policy.specs.Checks.{ladder}
use Rattle.policy.specs.Rulebook.{given}
use Rattle.policy.specs.History.{history_bytes}
use Rattle.policy.specs.Levels.{levels_bytes}
use Rattle.policy.specs.Calls.{State, call_checks}

pub not_given : (t : Tables) (a : State) → length a.history ≡ history_bytes → length a.levels ≡ levels_bytes → given t ≡ false
    → ladder (call_checks t a) ≡ 11
unfolding call_checks ladder
not_given t a size held g = rw (eq-eqb (length a.history) history_bytes size, eq-eqb (length a.levels) levels_bytes held, g)
