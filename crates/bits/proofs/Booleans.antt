-- What "and", "or" and "if .. then" of tests say where they are true: to take such a fact apart, to make one, and to compare two tests.
-- Each law holds because it holds of every choice of true and false.
use mathlib.Core.Path.{◌≡◌, refl, sym}
use mathlib.Core.Logic.{◌⊎◌, inl, inr}
use mathlib.Core.Bool.{Bool, true, false, cond, ◌&&◌, ◌||◌, false≢true}
use Rattle.std.specs.Int.{from_bool}
use Rattle.bits.specs.Bounded.{◌implies◌}

-- ---- a test as a number

pub from_bool_cond : (b : Bool) → from_bool b ≡ cond b 1 0
from_bool_cond true = refl
from_bool_cond false = refl

-- ---- and

pub and_left : (a b : Bool) → a && b ≡ true → a ≡ true
and_left true b e = refl
and_left false b e = e

pub and_right : (a b : Bool) → a && b ≡ true → b ≡ true
and_right true b e = e
and_right false b e = absurd (false≢true e)

pub and_both : (a b : Bool) → a ≡ true → b ≡ true → a && b ≡ true
and_both true b p q = q
and_both false b p q = p

-- a test that implies another is the same as both
pub and_implied : (a b : Bool) → (a ≡ true → b ≡ true) → a && b ≡ a
and_implied true b h = h refl
and_implied false b h = refl

-- ---- or

pub or_cases : (a b : Bool) → a || b ≡ true → (a ≡ true) ⊎ (b ≡ true)
or_cases true b e = inl refl
or_cases false b e = inr e

pub or_left : (a b : Bool) → a ≡ true → a || b ≡ true
or_left true b p = refl
or_left false b p = absurd (false≢true p)

pub or_right : (a b : Bool) → b ≡ true → a || b ≡ true
or_right true b p = refl
or_right false b p = p

pub or_neither : (a b : Bool) → a ≡ false → b ≡ false → a || b ≡ false
or_neither true b p q = p
or_neither false b p q = q

-- the first two of three change places
pub or_swap : (a b c : Bool) → a || (b || c) ≡ b || (a || c)
or_swap true true c = refl
or_swap true false c = refl
or_swap false b c = refl

-- ---- if .. then

pub implies_elim : (a b : Bool) → (a implies b) ≡ true → a ≡ true → b ≡ true
implies_elim true b h p = h
implies_elim false b h p = absurd (false≢true p)

pub implies_intro : (a b : Bool) → (a ≡ true → b ≡ true) → (a implies b) ≡ true
implies_intro true b h = h refl
implies_intro false b h = refl

-- ---- true or false

pub decide : (a : Bool) → (a ≡ true) ⊎ (a ≡ false)
decide true = inl refl
decide false = inr refl

-- what is false is not true, and what is not true is false
pub false_elim : (a : Bool) → a ≡ false → a ≡ true → ⊥
false_elim true p q = false≢true (sym p)
false_elim false p q = false≢true q

pub false_intro : (a : Bool) → (a ≡ true → ⊥) → a ≡ false
false_intro true h = absurd (h refl)
false_intro false h = refl

-- two tests are equal where each is true if the other is
pub bool_ext : (a b : Bool) → (a ≡ true → b ≡ true) → (b ≡ true → a ≡ true) → a ≡ b
bool_ext true b f g = sym (f refl)
bool_ext false true f g = g refl
bool_ext false false f g = refl

-- ---- a choice by a test

-- what holds of each arm, where the test leads to it, holds of the choice
pub by_test : {A : Type 0} (P : A → Type 0) (t : Bool) (x y : A) → (t ≡ true → P x) → (t ≡ false → P y) → P (cond t x y)
by_test P true x y f g = f refl
by_test P false x y f g = g refl
