-- The members of a set of places as a list, the lowest first. Those below n are all places of n; and a set is one of its members and the
-- set without it, in another order. By induction over the places that are looked at.
use Prim.Native.Nat.{ℕ, zero, suc, ◌+◌, ◌≤◌, ◌<◌}
use native.Mathlib.Nat.{eq-or-lt_of_le}
use native.Mathlib.Omega.{arith}
use mathlib.Core.Path.{◌≡◌, refl, ap, ◌∙◌}
use mathlib.Core.Logic.{◌≢◌, ⊎_elim}
use mathlib.Core.Bool.{Bool, true, false, cond}
use mathlib.Core.List.Memᴰ
use mathlib.Core.List.Perm
use mathlib.Core.List.{
  List,
  [],
  ◌∷◌,
  Memᴰ,
  Perm,
}
use Rattle.bits.proofs.Booleans.{decide}
use Rattle.policy.specs.Plans.{places_from}

-- the places from i on, n of them, of which p holds
unfoldable pub listed : ℕ → ℕ → (ℕ → Bool) → List ℕ
listed i zero p = []
listed i (suc n) p = let more = listed (suc i) n p in cond (p i) (i ∷ more) more

-- the first d hold, and no later one
pub listed_first : (n i d : ℕ) (p : ℕ → Bool) → d ≤ n → ((k : ℕ) → i ≤ k → k < i + d → p k ≡ true)
    → ((k : ℕ) → i + d ≤ k → p k ≡ false) → listed i n p ≡ places_from i d
unfolding listed places_from
listed_first zero i zero p l below beyond = refl
listed_first zero i (suc d) p l below beyond = let z : ⊥ = omega arith in absurd z
listed_first (suc n) i zero p l below beyond =
    rw (beyond i (omega arith))
    (listed_first n (suc i) zero p (omega arith) (λ k a b. below k (omega arith) (omega arith)) (λ k b. beyond k (omega arith)))
listed_first (suc n) i (suc d) p l below beyond =
    rw (below i (omega arith) (omega arith))
    (ap (λ (more : List ℕ). i ∷ more)
    (listed_first n (suc i) d p (omega arith) (λ k a b. below k (omega arith) (omega arith)) (λ k b. beyond k (omega arith))))

listed_same : (n i : ℕ) (p q : ℕ → Bool) → ((k : ℕ) → i ≤ k → p k ≡ q k) → listed i n p ≡ listed i n q
unfolding listed
listed_same zero i p q e = refl
listed_same (suc n) i p q e =
    rw (e i (omega arith), listed_same n (suc i) p q (λ k l. e k (omega arith)))

-- a member comes first, and the others behind it
pub listed_without : (n i : ℕ) (p q : ℕ → Bool) (k : ℕ) → i ≤ k → k < i + n → p k ≡ true → q k ≡ false
    → ((j : ℕ) → j ≢ k → q j ≡ p j) → Perm (listed i n p) (k ∷ listed i n q)
unfolding listed
listed_without zero i p q k low high holds gone others = let z : ⊥ = omega arith in absurd z
listed_without (suc n) i p q k low high holds gone others =
    ⊎_elim
    (λ (e : i ≡ k).
    let rest : listed (suc i) n q ≡ listed (suc i) n p = listed_same n (suc i) q p (λ j l. others j (λ m. omega arith)) in
    rw (e, holds, gone, ← e, rest) (Perm.refl (i ∷ listed (suc i) n p)))
    (λ (l : i < k).
    let more = listed_without n (suc i) p q k (omega arith) (omega arith) holds gone others in
    ⊎_elim
    (λ y. rw (others i (λ m. omega arith), y) (Perm.trans (Perm.cons i more) (Perm.swap k i (listed (suc i) n q))))
    (λ y. rw (others i (λ m. omega arith), y) more)
    (decide (p i)))
    (eq-or-lt_of_le low)

-- p holds of what is listed
pub listed_holds : (n i : ℕ) (p : ℕ → Bool) (k : ℕ) → Memᴰ k (listed i n p) → p k ≡ true
unfolding listed
listed_holds zero i p k m = absurd (Memᴰ.not-nil m)
listed_holds (suc n) i p k m =
    ⊎_elim
    (λ y. ⊎_elim (λ e. ap p e ∙ y) (λ more. listed_holds n (suc i) p k more) (Memᴰ.cases_cons (rw y at m)))
    (λ y. listed_holds n (suc i) p k (rw y at m))
    (decide (p i))

-- what p holds of is listed
pub holds_listed : (n i : ℕ) (p : ℕ → Bool) (k : ℕ) → i ≤ k → k < i + n → p k ≡ true → Memᴰ k (listed i n p)
unfolding listed
holds_listed zero i p k low high holds = let z : ⊥ = omega arith in absurd z
holds_listed (suc n) i p k low high holds =
    ⊎_elim
    (λ (e : i ≡ k). rw (e, holds) (Memᴰ.head refl))
    (λ (l : i < k).
    let more = holds_listed n (suc i) p k (omega arith) (omega arith) holds in
    ⊎_elim (λ y. rw y (Memᴰ.tail more)) (λ y. rw y more) (decide (p i)))
    (eq-or-lt_of_le low)
