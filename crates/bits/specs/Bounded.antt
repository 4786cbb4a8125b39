-- "Some", "every", "one after another", "the number of" and "the lowest", over the numbers below a bound.
use Rattle.std.specs.Prelude.{ℕ, zero, suc, ◌+◌, Bool, true, false, cond, ◌&&◌, ◌||◌}

-- p holds of some number below n
unfoldable pub any_below : ℕ → (ℕ → Bool) → Bool
any_below zero p = false
any_below (suc n) p = p n || any_below n p

-- p holds of every number below n
unfoldable pub all_below : ℕ → (ℕ → Bool) → Bool
all_below zero p = true
all_below (suc n) p = p n && all_below n p

-- f at 0, at 1 and so on, up to the last number below n, each on what the one before gave; a at the start
unfoldable pub fold_below : {A : Type 0} → ℕ → (ℕ → A → A) → A → A
fold_below zero f a = a
fold_below (suc n) f a = f n (fold_below n f a)

-- how many numbers below n p holds of
unfoldable pub count_below : ℕ → (ℕ → Bool) → ℕ
count_below zero p = 0
count_below (suc n) p = cond (p n) 1 0 + count_below n p

-- the lowest number below n of which p holds; n where there is none
unfoldable pub lowest_below : ℕ → (ℕ → Bool) → ℕ
lowest_below zero p = 0
lowest_below (suc n) p = cond (p 0) 0 (suc (lowest_below n (λ k. p (suc k))))

-- if a, then b
infixr 25 ◌implies◌
abbrev pub ◌implies◌ : Bool → Bool → Bool
true implies b = b
false implies b = true
