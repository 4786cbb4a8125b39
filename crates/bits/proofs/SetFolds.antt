-- One after another, over the members of a set: a number outside the set changes nothing, so the lowest member can come first, and then the
-- others. It rests on laws of what is done one after another for all numbers below a bound, which hold by induction on the bound.
use Prim.Native.Nat.{ℕ, zero, suc, ◌+◌, ◌^◌, ◌≤◌, ◌<◌}
use native.Mathlib.Nat.{eq-or-lt_of_le, le_of_suc-le-suc, lt-suc_self}
use native.Mathlib.Omega.{arith}
use mathlib.Core.Path.{◌≡◌, refl, sym, ap, ◌∙◌}
use mathlib.Core.Logic.{⊎_elim}
use mathlib.Core.Bool.{Bool, false, cond}
use Rattle.bits.specs.Bits.{bit, without_bit, fold_set}
use Rattle.bits.specs.Bounded.{fold_below, lowest_below}
use Rattle.bits.proofs.BitLaws.{bit_zero}
use Rattle.bits.proofs.LowestBit.{below_lowest, lowest_lt, lowest_set, same_above, none_to_lowest}

-- ---- one after another, for all numbers below a bound

-- functions that agree below n give the same
pub fold_ext : {A : Type 0} (n : ℕ) (f g : ℕ → A → A) (a : A) → ((k : ℕ) (x : A) → k < n → f k x ≡ g k x)
    → fold_below n f a ≡ fold_below n g a
unfolding fold_below
fold_ext zero f g a h = refl
fold_ext (suc n) f g a h = h n _ (lt-suc_self n) ∙ ap (g n) (fold_ext n f g a (λ k x l. h k x (omega arith)))

-- the first n, and then the m after them
pub fold_two : {A : Type 0} (n m : ℕ) (f : ℕ → A → A) (a : A)
    → fold_below (n + m) f a ≡ fold_below m (λ k. f (n + k)) (fold_below n f a)
unfolding fold_below
fold_two n zero f a = let all : n + 0 ≡ n = omega arith in ap (λ (k : ℕ). fold_below k f a) all
fold_two n (suc m) f a =
    let next : n + suc m ≡ suc (n + m) = omega arith in
    ap (λ (k : ℕ). fold_below k f a) next ∙ ap (f (n + m)) (fold_two n m f a)

-- a function that changes nothing below n gives what it starts from
fold_none : {A : Type 0} (n : ℕ) (f : ℕ → A → A) (a : A) → ((k : ℕ) (x : A) → k < n → f k x ≡ x) → fold_below n f a ≡ a
unfolding fold_below
fold_none zero f a h = refl
fold_none (suc n) f a h = h n _ (lt-suc_self n) ∙ fold_none n f a (λ k x l. h k x (omega arith))

-- f at k comes first, and then g, if f changes nothing below k, and g nothing up to k and after it the same as f
fold_first : {A : Type 0} (n k : ℕ) (f g : ℕ → A → A) (a : A) → k < n → ((i : ℕ) (x : A) → i < k → f i x ≡ x)
    → ((i : ℕ) (x : A) → i ≤ k → g i x ≡ x) → ((i : ℕ) (x : A) → k < i → f i x ≡ g i x) → fold_below n f a ≡ fold_below n g (f k a)
unfolding fold_below
fold_first zero k f g a l low none same = absurd (omega arith)
fold_first (suc n) k f g a l low none same =
    ⊎_elim
    (λ (e : k ≡ n).
    rw e
    (ap (f n) (fold_none n f a (λ i x b. low i x (omega arith)))
    ∙ sym (none n _ (omega arith) ∙ fold_none n g (f n a) (λ i x b. none i x (omega arith)))))
    (λ m. same n _ m ∙ ap (g n) (fold_first n k f g a m low none same))
    (eq-or-lt_of_le (le_of_suc-le-suc l))

-- ---- the members of a set

module _ {A : Type 0} (f : ℕ → A → A) where
  -- a number outside the set changes nothing
  outside : (set k : ℕ) (x : A) → bit set k ≡ false → cond (bit set k) (f k x) x ≡ x
  outside set k x e = rw e

  -- the set is empty
  pub set_none : (n : ℕ) (a : A) → fold_set n 0 f a ≡ a
  unfolding fold_set
  set_none n a = fold_none n _ a (λ k x l. outside 0 k x (bit_zero k))

  -- the lowest member comes first, and then the others
  pub set_lowest : (w set : ℕ) (a : A) → 0 < set → set < 2 ^ w
      → fold_set w set f a ≡ fold_set w (without_bit set (lowest_below w (bit set))) f (f (lowest_below w (bit set)) a)
  unfolding fold_set
  set_lowest w set a some fits =
      let k : ℕ = lowest_below w (bit set) in
      let others : ℕ → A → A = λ i x. cond (bit (without_bit set k) i) (f i x) x in
      fold_first w k (λ i x. cond (bit set i) (f i x) x) others a (lowest_lt w set some fits)
      (λ i x l. outside set i x (below_lowest w (bit set) i l))
      (λ i x l. outside (without_bit set k) i x (none_to_lowest w set i l))
      (λ i x l. ap (λ (b : Bool). cond b (f i x) x) (sym (same_above set k i l)))
      ∙ ap (λ (b : Bool). fold_below w others (cond b (f k a) a)) (lowest_set w set some fits)
