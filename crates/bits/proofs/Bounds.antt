-- What "some", "every", "one after another" and "the number of", over the numbers below a bound, say of each number below it, and how
-- each changes as the bound grows by one. All hold by induction on the bound.
use Prim.Native.Nat.{ℕ, zero, suc, ◌+◌, ◌<◌}
use native.Mathlib.Nat.{eq-or-lt_of_le, le_of_suc-le-suc, not-suc-le-zero, lt-suc_self, add_left_comm}
use native.Mathlib.Numerals.{add-one}
use native.Mathlib.Omega.{arith}
use mathlib.Core.Path.{◌≡◌, refl, sym, ap, ap₂, ◌∙◌, subst}
use mathlib.Core.Logic.{◌⊎◌, inl, inr, ⊎_elim}
use mathlib.Core.Bool.{Bool, true, false, cond, ◌&&◌, ◌||◌, false≢true}
use Rattle.bits.specs.Bounded.{any_below, all_below, fold_below, count_below}
use Rattle.bits.proofs.Booleans.{and_left, and_right, and_both, or_cases, or_left, or_right, or_neither, false_intro, false_elim}

-- ---- some number below n

pub any_start : (p : ℕ → Bool) → any_below 0 p ≡ false
unfolding any_below
any_start p = refl

pub any_more : (n : ℕ) (p : ℕ → Bool) → any_below (n + 1) p ≡ p n || any_below n p
unfolding any_below
any_more n p = ap (λ (m : ℕ). any_below m p) (add-one n)

pub any_some : (n : ℕ) (p : ℕ → Bool) → any_below n p ≡ true → (k : ℕ) × (k < n) × (p k ≡ true)
unfolding any_below
any_some zero p e = absurd (false≢true e)
any_some (suc n) p e = go (any_some n p) (or_cases (p n) (any_below n p) e)
  where
    go : (any_below n p ≡ true → (k : ℕ) × (k < n) × (p k ≡ true)) → (p n ≡ true) ⊎ (any_below n p ≡ true)
        → (k : ℕ) × (k < suc n) × (p k ≡ true)
    go below (inl h) = (n, lt-suc_self n, h)
    go below (inr h) = let (k, l, w) = below h in (k, omega arith, w)

pub some_any : (n : ℕ) (p : ℕ → Bool) (k : ℕ) → k < n → p k ≡ true → any_below n p ≡ true
unfolding any_below
some_any zero p k h e = absurd (not-suc-le-zero h)
some_any (suc n) p k h e =
    ⊎_elim (λ (q : k ≡ n). or_left (p n) (any_below n p) (subst (λ (i : ℕ). p i ≡ true) q e))
    (λ l. or_right (p n) (any_below n p) (some_any n p k l e))
    (eq-or-lt_of_le (le_of_suc-le-suc h))

pub any_ext : (n : ℕ) (p q : ℕ → Bool) → ((k : ℕ) → k < n → p k ≡ q k) → any_below n p ≡ any_below n q
unfolding any_below
any_ext zero p q h = refl
any_ext (suc n) p q h = ap₂ ◌||◌ (h n (lt-suc_self n)) (any_ext n p q (λ k l. h k (omega arith)))

-- none below n, and not n either: none below n + 1
pub any_none : (n : ℕ) (p : ℕ → Bool) → any_below n p ≡ false → p n ≡ false → any_below (n + 1) p ≡ false
any_none n p none here = any_more n p ∙ or_neither (p n) (any_below n p) here none

pub none_any : (n : ℕ) (p : ℕ → Bool) → ((k : ℕ) → k < n → p k ≡ false) → any_below n p ≡ false
none_any n p h =
    false_intro (any_below n p) (λ e. let (k, l, w) = any_some n p e in false_elim (p k) (h k l) w)

pub none_at : (n : ℕ) (p : ℕ → Bool) → any_below n p ≡ false → (k : ℕ) → k < n → p k ≡ false
none_at n p e k l = false_intro (p k) (λ w. false_elim (any_below n p) e (some_any n p k l w))

-- ---- every number below n

pub all_start : (p : ℕ → Bool) → all_below 0 p ≡ true
unfolding all_below
all_start p = refl

pub all_more : (n : ℕ) (p : ℕ → Bool) → all_below (n + 1) p ≡ p n && all_below n p
unfolding all_below
all_more n p = ap (λ (m : ℕ). all_below m p) (add-one n)

pub all_at : (n : ℕ) (p : ℕ → Bool) → all_below n p ≡ true → (k : ℕ) → k < n → p k ≡ true
unfolding all_below
all_at zero p e k h = absurd (not-suc-le-zero h)
all_at (suc n) p e k h =
    ⊎_elim (λ (q : k ≡ n). subst (λ (i : ℕ). p i ≡ true) (sym q) (and_left (p n) (all_below n p) e))
    (λ l. all_at n p (and_right (p n) (all_below n p) e) k l)
    (eq-or-lt_of_le (le_of_suc-le-suc h))

pub all_of : (n : ℕ) (p : ℕ → Bool) → ((k : ℕ) → k < n → p k ≡ true) → all_below n p ≡ true
unfolding all_below
all_of zero p h = refl
all_of (suc n) p h = and_both (p n) (all_below n p) (h n (lt-suc_self n)) (all_of n p (λ k l. h k (omega arith)))

pub all_ext : (n : ℕ) (p q : ℕ → Bool) → ((k : ℕ) → k < n → p k ≡ q k) → all_below n p ≡ all_below n q
unfolding all_below
all_ext zero p q h = refl
all_ext (suc n) p q h = ap₂ ◌&&◌ (h n (lt-suc_self n)) (all_ext n p q (λ k l. h k (omega arith)))

-- ---- one after another

pub fold_start : {A : Type 0} (f : ℕ → A → A) (a : A) → fold_below 0 f a ≡ a
unfolding fold_below
fold_start f a = refl

pub fold_more : {A : Type 0} (n : ℕ) (f : ℕ → A → A) (a : A) → fold_below (n + 1) f a ≡ f n (fold_below n f a)
unfolding fold_below
fold_more n f a = ap (λ (m : ℕ). fold_below m f a) (add-one n)

-- a turn of a loop that takes x to f n x
pub fold_step : {A : Type 0} (n : ℕ) (f : ℕ → A → A) (a : A) {x y : A}
    → x ≡ fold_below n f a → y ≡ f n x → y ≡ fold_below (n + 1) f a
fold_step n f a before turn = turn ∙ ap (f n) before ∙ sym (fold_more n f a)

-- ---- the number of

pub count_ext : (n : ℕ) (p q : ℕ → Bool) → ((k : ℕ) → k < n → p k ≡ q k) → count_below n p ≡ count_below n q
unfolding count_below
count_ext zero p q h = refl
count_ext (suc n) p q h =
    ap₂ (λ (t : Bool) (m : ℕ). cond t 1 0 + m) (h n (lt-suc_self n)) (count_ext n p q (λ k l. h k (omega arith)))

-- counted from the lowest number
pub count_low : (n : ℕ) (p : ℕ → Bool)
    → count_below (suc n) p ≡ cond (p 0) 1 0 + count_below n (λ k. p (suc k))
unfolding count_below
count_low zero p = refl
count_low (suc n) p = ap (λ (m : ℕ). cond (p (suc n)) 1 0 + m) (count_low n p) ∙ add_left_comm _ _ _
