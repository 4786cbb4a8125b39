-- "Some", "every" and "one after another" over the elements of a list are what they are over the places below its length. Beside them,
-- that a number below a width is itself modulo the width, as bits take it.
use Prim.Native.Nat.{ℕ, zero, suc, ◌+◌, ◌%◌, ◌<◌}
use native.Mathlib.Nat.{mod-eq_of_lt}
use native.Mathlib.Omega.{arith}
use mathlib.Core.Path.{◌≡◌, refl, ap, ap₂, ◌∙◌}
use mathlib.Core.Bool.{Bool, true, false, ◌&&◌, ◌||◌}
use mathlib.Core.List.{List, [], ◌∷◌}
use lib.ListN.{length, get_or}
use Rattle.std.specs.List.{list_any, list_all, enumerate_from, fold}
use Rattle.bits.specs.Bounded.{any_below, all_below, fold_below}
use Rattle.bits.proofs.Bounds.{any_ext}

and_past : (a b c : Bool) → a && (b && c) ≡ b && (a && c)
and_past true b c = refl
and_past false true c = refl
and_past false false c = refl

or_past : (a b c : Bool) → a || (b || c) ≡ b || (a || c)
or_past true true c = refl
or_past true false c = refl
or_past false b c = refl

-- the lowest number first
all_low : (n : ℕ) (p : ℕ → Bool) → p 0 && all_below n (λ k. p (suc k)) ≡ all_below (suc n) p
unfolding all_below
all_low zero p = refl
all_low (suc n) p =
    and_past (p 0) (p (suc n)) (all_below n (λ k. p (suc k))) ∙ ap (λ b. p (suc n) && b) (all_low n p)

any_low : (n : ℕ) (p : ℕ → Bool) → p 0 || any_below n (λ k. p (suc k)) ≡ any_below (suc n) p
unfolding any_below
any_low zero p = refl
any_low (suc n) p =
    or_past (p 0) (p (suc n)) (any_below n (λ k. p (suc k))) ∙ ap (λ b. p (suc n) || b) (any_low n p)

fold_low : {A : Type 0} (n : ℕ) (f : ℕ → A → A) (a : A) → fold_below n (λ k. f (suc k)) (f 0 a) ≡ fold_below (suc n) f a
unfolding fold_below
fold_low zero f a = refl
fold_low (suc n) f a = ap (f (suc n)) (fold_low n f a)

-- ---- over a list

all_from : {A : Type 0} (p : A → Bool) (d : A) (l : List A) → list_all p l ≡ all_below (length l) (λ k. p (get_or l k d))
unfolding all_below
all_from p d [] = refl
all_from p d (x ∷ l) = ap (λ b. p x && b) (all_from p d l) ∙ all_low (length l) (λ k. p (get_or (x ∷ l) k d))

pub all_listed : {A : Type 0} (p : A → Bool) (d : A) (l : List A) (n : ℕ) → length l ≡ n
    → list_all p l ≡ all_below n (λ k. p (get_or l k d))
all_listed p d l n long = all_from p d l ∙ ap (λ (m : ℕ). all_below m (λ k. p (get_or l k d))) long

fold_from : {A B : Type 0} (f : B → A → B) (d : A) (l : List A) (b : B)
    → fold f b l ≡ fold_below (length l) (λ k acc. f acc (get_or l k d)) b
unfolding fold_below
fold_from f d [] b = refl
fold_from f d (x ∷ l) b =
    fold_from f d l (f b x) ∙ fold_low (length l) (λ k acc. f acc (get_or (x ∷ l) k d)) b

pub fold_listed : {A B : Type 0} (f : B → A → B) (d : A) (l : List A) (b : B) (n : ℕ) → length l ≡ n
    → fold f b l ≡ fold_below n (λ k acc. f acc (get_or l k d)) b
fold_listed f d l b n long =
    fold_from f d l b ∙ ap (λ (m : ℕ). fold_below m (λ k acc. f acc (get_or l k d)) b) long

-- the elements with their places, counted from k
places_from : {A : Type 0} (p : ℕ → A → Bool) (d : A) (k : ℕ) (l : List A)
    → list_any (λ x. p x.0 x.1) (enumerate_from k l) ≡ any_below (length l) (λ i. p (k + i) (get_or l i d))
unfolding any_below
places_from p d k [] = refl
places_from p d k (x ∷ l) =
    ap₂ (λ i b. p i x || b) (omega arith)
    (places_from p d (k + 1) l ∙ any_ext (length l) _ _ (λ i below. ap (λ j. p j (get_or l i d)) (omega arith)))
    ∙ any_low (length l) (λ i. p (k + i) (get_or (x ∷ l) i d))

pub any_places : {A : Type 0} (p : ℕ → A → Bool) (d : A) (l : List A) (n : ℕ) → length l ≡ n
    → list_any (λ x. p x.0 x.1) (enumerate_from 0 l) ≡ any_below n (λ i. p i (get_or l i d))
any_places p d l n long =
    places_from p d 0 l
    ∙ any_ext (length l) _ _ (λ i below. ap (λ j. p j (get_or l i d)) (omega arith))
    ∙ ap (λ (m : ℕ). any_below m (λ i. p i (get_or l i d))) long

-- a number below a width is itself modulo the width
pub within : {A : Type 0} (f : ℕ → A) (n w : ℕ) → n < w → f (n % w) ≡ f n
within f n w l = ap f (mod-eq_of_lt l)
