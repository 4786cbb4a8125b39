-- A test of the elements of a list, one after another, is the test of the numbers of its places: the search from the front and the search
-- from the end find the same.
use Prim.Native.Nat.{ℕ, zero, suc}
use mathlib.Core.Path.{◌≡◌, refl, sym, ap, ◌∙◌}
use mathlib.Core.Bool.{Bool, true, false, ◌||◌}
use mathlib.Core.List.{List, [], ◌∷◌}
use lib.ListN.{length, get_or}
use Rattle.std.specs.List.{list_any}
use Rattle.bits.specs.Bounded.{any_below}

or_swap : (a b c : Bool) → a || (b || c) ≡ b || (a || c)
or_swap true true c = refl
or_swap true false c = refl
or_swap false b c = refl

-- the first number stands apart
any_front : (n : ℕ) (p : ℕ → Bool) → any_below (suc n) p ≡ p 0 || any_below n (λ k. p (suc k))
unfolding any_below
any_front zero p = refl
any_front (suc n) p = ap (λ (x : Bool). p (suc n) || x) (any_front n p) ∙ or_swap (p (suc n)) (p 0) (any_below n (λ k. p (suc k)))

pub any_elements : (p : ℕ → Bool) (l : List ℕ) → list_any p l ≡ any_below (length l) (λ k. p (get_or l k 0))
unfolding any_below
any_elements p [] = refl
any_elements p (x ∷ l) =
    ap (λ (b : Bool). p x || b) (any_elements p l) ∙ sym (any_front (length l) (λ k. p (get_or (x ∷ l) k 0)))
