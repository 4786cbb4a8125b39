-- The checks of a record in which the tables have no part, in their order: the number that the first failing one gives.
use Prim.Native.Nat.{ℕ, ◌+◌, ◌-◌, ◌≤◌, ◌<◌}
use native.Mathlib.Omega.{arith}
use mathlib.Core.Bool.{Bool, true, false, cond, beq}
use mathlib.Core.List.{List}
use mathlib.Core.Path.{◌≡◌}
use lib.Dec.{eqb}
use lib.ListN.{length, get_or, drop, length-drop}
use borrow.Author.Tests.{lt-ltb, le-ltb, le-leb, lt-leb}
use Rattle.policy.specs.Checks.{ladder}
use Rattle.policy.specs.Rulebook.{last_kind, body_length, record_of, in_range}
use Rattle.rulebook.specs.Readings.{form_checks, form_number}

pub no_byte : (book : List ℕ) (at : ℕ) → length book ≤ at → 1 ≡ form_number book at
unfolding form_number
no_byte book at l = rw (le-ltb _ _ l)

module _ (book : List ℕ) (at : ℕ) (there : at < length book) where
  pub unknown_kind : last_kind < get_or book at 0 → 2 ≡ form_number book at
  unfolding form_number form_checks ladder
  unknown_kind l = rw (lt-ltb _ _ there, lt-leb _ _ l)

  module _ (known : get_or book at 0 ≤ last_kind) where
    pub misplaced : beq (eqb (get_or book at 0) 1) (eqb at 0) ≡ false → 3 ≡ form_number book at
    unfolding form_number form_checks ladder
    misplaced m = rw (lt-ltb _ _ there, le-leb _ _ known, m)

    module _ (placed : beq (eqb (get_or book at 0) 1) (eqb at 0) ≡ true) where
      pub cut : length book - at < 1 + body_length (get_or book at 0) → 1 ≡ form_number book at
      unfolding form_number form_checks ladder
      cut l =
          let short : length book - (at + 1) < body_length (get_or book at 0) = omega arith in
          rw (lt-ltb _ _ there, le-leb _ _ known, placed, length-drop (at + 1) book, lt-leb _ _ short)

      pub ranges : 1 + body_length (get_or book at 0) ≤ length book - at → (b : Bool)
          → in_range (record_of (get_or book at 0) (drop (at + 1) book)) ≡ b → cond b 0 4 ≡ form_number book at
      unfolding form_number form_checks ladder
      ranges l b e =
          let long : body_length (get_or book at 0) ≤ length book - (at + 1) = omega arith in
          rw (lt-ltb _ _ there, le-leb _ _ known, placed, length-drop (at + 1) book, le-leb _ _ long, e)
