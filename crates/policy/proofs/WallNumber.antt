-- When a request gets 14, the wall's number: exactly where the checks before the wall permit and the wall does not, whatever the rules
-- after it say, since these have other numbers. By cases on the checks.
use Prim.Native.Nat.{ℕ}
use native.Mathlib.Omega.{arith}
use mathlib.Core.Path.{◌≡◌, refl}
use mathlib.Core.Logic.{◌≢◌}
use mathlib.Core.Bool.{Bool, true, false, cond}
use mathlib.Core.List.{[], ◌∷◌, ◌++◌}
use mathlib.Core.Option.{Option, none, some}
use lib.ListN.{length}
use Rattle.bits.specs.Bounded.{◌implies◌}
use Rattle.level.specs.declared.Comparison.{Comparison}
use Rattle.policy.specs.declared.Tables.{Tables}
use Rattle.policy.specs.Checks.{◌else◌, ladder}
use Rattle.policy.specs.Tables.{in_force, wall_rule, low_water_rule, roles_rule, pipeline_rule}
use Rattle.policy.specs.Rulebook.{given}
use Rattle.policy.specs.Request.{Request, set_of}
use Rattle.policy.specs.Levels.{level_at}
use Rattle.policy.specs.Rules.{declared, wall, level_outcome, low_water, roles, pipeline}
use Rattle.policy.specs.Calls.{State, outcome_number, request_checks, call_checks}
use Rattle.policy.proofs.CallChecks.{size_right, held_right}
use Rattle.policy.proofs.OutcomeNumbers.{outcome_other}

-- the number of the call's checks, of the parties, of the wall and of what comes after it
abbrev pub number_of : Bool → Bool → Bool → Bool → Bool → ℕ → ℕ
number_of size held given parties walled later =
    cond size (cond held (cond given (cond parties (cond walled later 14) 13) 11) 20) 10

-- the number of the rules after the wall
unfoldable pub after_wall : Tables → (Request → Bool) → (ℕ → ℕ) → Request → ℕ
after_wall t H levels r =
    ladder ((in_force t low_water_rule implies low_water t levels r else outcome_number (level_outcome t levels r))
    ∷ (in_force t roles_rule implies roles t H r else 16)
    ∷ (in_force t pipeline_rule implies pipeline t H r else 17)
    ∷ [])

-- it is another one
later_other : (c : Comparison) (l r p : Bool) → ◌≢◌ {A = ℕ} (cond l (cond r (cond p 0 17) 16) (outcome_number c)) 14
later_other c false r p = outcome_other c
later_other c true false p = omega arith
later_other c true true false = omega arith
later_other c true true true = omega arith

pub after_other : (t : Tables) (H : Request → Bool) (levels : ℕ → ℕ) (r : Request) → after_wall t H levels r ≢ 14
unfolding after_wall ladder
after_other t H levels r =
    later_other (level_outcome t levels r) (in_force t low_water_rule implies low_water t levels r) (in_force t roles_rule implies roles t H r)
    (in_force t pipeline_rule implies pipeline t H r)

-- the wall, where it is in force
unfoldable pub walled : Tables → (Request → Bool) → Request → Bool
walled t H r = in_force t wall_rule implies wall t H r

-- the number of the request that some bytes hold, or of none
unfoldable pub judged_number : Tables → State → Option Request → ℕ
judged_number t a q = ladder (call_checks t a ++ request_checks t (set_of a.history) (level_at a.levels) q)

-- the number of a whole request
pub judged_as_lem : (t : Tables) (a : State) (r : Request)
    → judged_number t a (some r)
    ≡ number_of (size_right a) (held_right a) (given t) (declared t r) (walled t (set_of a.history) r)
    (after_wall t (set_of a.history) (level_at a.levels) r)
unfolding judged_number call_checks request_checks ladder after_wall walled
judged_as_lem t a r = refl

-- a record that is cut gets its number by the lengths of the history and the levels alone
pub cut_as : (t : Tables) (a b : State) → length a.history ≡ length b.history → length a.levels ≡ length b.levels
    → judged_number t b none ≡ judged_number t a none
unfolding judged_number call_checks request_checks
cut_as t a b size held = rw (size, held)

pub passed_other : (a c b d w : Bool) (m : ℕ) → w ≡ true → m ≢ 14 → number_of a c b d w m ≢ 14
passed_other false c b d w m p n e = omega arith
passed_other true false b d w m p n e = omega arith
passed_other true true false d w m p n e = omega arith
passed_other true true true false w m p n e = omega arith
passed_other true true true true w m p n e = n (rw p at e)

-- where the wall refuses, what comes after it does not count
pub same_fourteen : (a c b d w : Bool) (m m' : ℕ) → m ≢ 14 → number_of a c b d w m ≡ 14 → number_of a c b d w m' ≡ 14
same_fourteen false c b d w m m' n e = e
same_fourteen true false b d w m m' n e = e
same_fourteen true true false d w m m' n e = e
same_fourteen true true true false w m m' n e = e
same_fourteen true true true true false m m' n e = refl
same_fourteen true true true true true m m' n e = absurd (n e)

-- two answers that are not the wall's, with the same before and after it
pub same_later : (a c b d w w' : Bool) (m : ℕ) → number_of a c b d w m ≢ 14 → number_of a c b d w' m ≢ 14
    → number_of a c b d w m ≡ number_of a c b d w' m
same_later false c b d w w' m n n' = refl
same_later true false b d w w' m n n' = refl
same_later true true false d w w' m n n' = refl
same_later true true true false w w' m n n' = refl
same_later true true true true true true m n n' = refl
same_later true true true true false false m n n' = refl
same_later true true true true true false m n n' = absurd (n' refl)
same_later true true true true false true m n n' = absurd (n refl)
