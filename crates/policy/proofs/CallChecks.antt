-- The three checks that every call begins with. They pass exactly where both buffers have their lengths and a load gives the tables; then
-- the number is that of the checks after them, and where one refuses, what follows does not count. By cases on the three checks.
use Prim.Native.Nat.{ℕ}
use native.Mathlib.Omega.{arith}
use mathlib.Core.Path.{◌≡◌, refl, sym, ◌∙◌}
use mathlib.Core.Logic.{◌≢◌}
use mathlib.Core.Bool.{Bool, true, false, cond}
use mathlib.Core.List.{List, ◌++◌}
use lib.Dec.{eqb}
use lib.ListN.{length}
use borrow.Author.Tests.{eqb-true, eq-eqb}
use Rattle.policy.specs.declared.Tables.{Tables}
use Rattle.policy.specs.Checks.{Check, ladder}
use Rattle.policy.specs.Rulebook.{given}
use Rattle.policy.specs.History.{history_bytes}
use Rattle.policy.specs.Levels.{levels_bytes}
use Rattle.policy.specs.Calls.{State, call_checks}

-- the checks of the two lengths
abbrev pub size_right : State → Bool
size_right a = eqb (length a.history) history_bytes

abbrev pub held_right : State → Bool
held_right a = eqb (length a.levels) levels_bytes

-- the number of a call whose checks after the three have this number
unfoldable pub call_number : Bool → Bool → Bool → ℕ → ℕ
call_number size held known later = cond size (cond held (cond known later 11) 20) 10

-- what a call that is not refused was lent
pub record Ready (t : Tables) (a : State) : Type 0 where
  pub size : length a.history ≡ history_bytes
  pub held : length a.levels ≡ levels_bytes
  pub tables : given t ≡ true

all_three : (x y z : Bool) (n : ℕ) → call_number x y z n ≡ 0 → (x ≡ true) × (y ≡ true) × (z ≡ true) × (n ≡ 0)
unfolding call_number
all_three true true true n e = (refl, refl, refl, e)
all_three true true false n e = let w : ⊥ = omega arith in absurd w
all_three true false z n e = let w : ⊥ = omega arith in absurd w
all_three false y z n e = let w : ⊥ = omega arith in absurd w

first_refusal : (x y z : Bool) (n : ℕ) → call_number x y z 0 ≢ 0 → call_number x y z n ≡ call_number x y z 0
unfolding call_number
first_refusal true true true n k = absurd (k refl)
first_refusal true true false n k = refl
first_refusal true false z n k = refl
first_refusal false y z n k = refl

-- a number that is neither one of the three nor that of the checks after them
pub call_other : (x y z : Bool) (later n : ℕ) → later ≢ n → 10 ≢ n → 20 ≢ n → 11 ≢ n → call_number x y z later ≢ n
unfolding call_number
call_other true true true later n other ten twenty eleven = other
call_other true true false later n other ten twenty eleven = eleven
call_other true false z later n other ten twenty eleven = twenty
call_other false y z later n other ten twenty eleven = ten

module _ (t : Tables) (a : State) where
  pub calls_as : (rest : List Check) → ladder (call_checks t a ++ rest) ≡ call_number (size_right a) (held_right a) (given t) (ladder rest)
  unfolding call_checks ladder call_number
  calls_as rest = refl

  pub checks_as : ladder (call_checks t a) ≡ call_number (size_right a) (held_right a) (given t) 0
  unfolding call_checks ladder call_number
  checks_as = refl

  -- where a call is not refused, neither by the three nor by those after them
  pub taken_then : (rest : List Check) → ladder (call_checks t a ++ rest) ≡ 0 → Ready t a × (ladder rest ≡ 0)
  taken_then rest e =
      let (x, y, z, n) = all_three _ _ _ _ (sym (calls_as rest) ∙ e) in
      (record { size = eqb-true _ history_bytes x; held = eqb-true _ levels_bytes y; tables = z }, n)

  pub taken : ladder (call_checks t a) ≡ 0 → Ready t a
  taken e =
      let (x, y, z, n) = all_three _ _ _ _ (sym checks_as ∙ e) in
      record { size = eqb-true _ history_bytes x; held = eqb-true _ levels_bytes y; tables = z }

  -- the number is that of the checks after the three
  pub ready_then : (rest : List Check) → Ready t a → ladder (call_checks t a ++ rest) ≡ ladder rest
  unfolding call_number
  ready_then rest r = calls_as rest ∙ rw (eq-eqb _ history_bytes r.size, eq-eqb _ levels_bytes r.held, r.tables)

  pub ready_passes : Ready t a → ladder (call_checks t a) ≡ 0
  unfolding call_number
  ready_passes r = checks_as ∙ rw (eq-eqb _ history_bytes r.size, eq-eqb _ levels_bytes r.held, r.tables)

  -- what follows a refusal does not count
  pub refused_first : (rest : List Check) → ladder (call_checks t a) ≢ 0 → ladder (call_checks t a ++ rest) ≡ ladder (call_checks t a)
  refused_first rest n = calls_as rest ∙ first_refusal _ _ _ _ (λ z. n (checks_as ∙ z)) ∙ sym checks_as
