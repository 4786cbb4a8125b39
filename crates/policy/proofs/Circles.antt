-- `has_circle` is true exactly where the pairs form a circle. It holds because `reaches t k` knows the ways all of whose inner steps are
-- below k, by induction on k, and every step that a pair names is below 16.
use Prim.Native.Nat.{ℕ, zero, suc, ◌^◌, ◌≤◌, ◌<◌}
use native.Mathlib.Nat.{eq-or-lt_of_le, le_of_suc-le-suc, not-suc-le-zero}
use native.Mathlib.Omega.{arith}
use mathlib.Core.Path.{◌≡◌, refl, ap, ◌∙◌}
use mathlib.Core.Logic.{◌⊎◌, inl, inr, ⊎_elim}
use mathlib.Core.Bool.{true, false, ◌&&◌}
use mathlib.Core.List.{List, [], ◌∷◌, Memᴰ}
use lib.Dec.{ltb}
use lib.ListN.{length, get_or, get_or-eq_default}
use borrow.Author.Tests.{ltb-true, ltb-false}
use Rattle.bits.specs.Bits.{bit}
use Rattle.bits.proofs.Booleans.{and_left, and_right, and_both, or_cases, or_left, or_right, decide, false_elim}
use Rattle.bits.proofs.Bounds.{any_some, some_any}
use Rattle.bits.proofs.BitLaws.{bit_zero, bit_below}
use Rattle.policy.specs.declared.Tables.{Tables}
use Rattle.policy.specs.Tables.{enabled_by, enables}
use Rattle.policy.specs.Rulebook.{reaches, has_circle}
use Rattle.policy.specs.Ways.{Way, one, more, Enables}
use Rattle.policy.specs.Given.{OfType}
use Rattle.policy.specs.Demands.{Circles}

pub way_join : {Pair : ℕ → ℕ → Type 0} {p m q : ℕ} → Way Pair p m → Way Pair m q → Way Pair p q
way_join (one e) w = more e w
way_join (more e v) w = more e (way_join v w)

-- a way by one relation is a way by every wider one
pub way_map : {A B : ℕ → ℕ → Type 0} → ((p q : ℕ) → A p q → B p q) → {p q : ℕ} → Way A p q → Way B p q
way_map f {p} {q} (one e) = one (f p q e)
way_map f {p} {q} (more {m = m} e w) = more (f p m e) (way_map f w)

module _ (t : Tables) where
  through : (k p q : ℕ) → reaches t k p k ≡ true → reaches t k k q ≡ true → reaches t (suc k) p q ≡ true
  unfolding reaches
  through k p q a b = or_right (reaches t k p q) _ (and_both (reaches t k p k) (reaches t k k q) a b)

  keep : (k p q : ℕ) → reaches t k p q ≡ true → reaches t (suc k) p q ≡ true
  unfolding reaches
  keep k p q h = or_left (reaches t k p q) _ h

  split : (k p q : ℕ) → reaches t (suc k) p q ≡ true
      → (reaches t k p q ≡ true) ⊎ ((reaches t k p k ≡ true) × (reaches t k k q ≡ true))
  unfolding reaches
  split k p q h =
      ⊎_elim (λ a. inl a) (λ a. inr (and_left (reaches t k p k) (reaches t k k q) a, and_right (reaches t k p k) (reaches t k k q) a))
      (or_cases (reaches t k p q) (reaches t k p k && reaches t k k q) h)

  -- two ways that meet in a step below k make one
  meet : (k p m q : ℕ) → m < k → reaches t k p m ≡ true → reaches t k m q ≡ true → reaches t k p q ≡ true
  meet zero p m q l a b = absurd (not-suc-le-zero l)
  meet (suc k) p m q l a b =
      ⊎_elim
      (λ (e : m ≡ k).
      through k p q (⊎_elim (λ x. x) (λ x. x.0) (split k p k (rw e at a))) (⊎_elim (λ x. x) (λ x. x.1) (split k k q (rw e at b))))
      (λ i.
      ⊎_elim
      (λ x. ⊎_elim (λ y. keep k p q (meet k p m q i x y)) (λ y. through k p q (meet k p m k i x y.0) y.1) (split k m q b))
      (λ x. ⊎_elim (λ y. through k p q x.0 (meet k k m q i x.1 y)) (λ y. through k p q x.0 y.1) (split k m q b))
      (split k p m a))
      (eq-or-lt_of_le (le_of_suc-le-suc l))

  pair_reaches : (k p q : ℕ) → enables t p q ≡ true → reaches t k p q ≡ true
  unfolding reaches
  pair_reaches zero p q e = e
  pair_reaches (suc k) p q e = keep k p q (pair_reaches k p q e)

  module _ (small : (p q : ℕ) → enables t p q ≡ true → (p < 16) × (q < 16)) where
    way_reaches : {p q : ℕ} → Way (Enables t) p q → reaches t 16 p q ≡ true
    way_reaches {p} {q} (one e) = pair_reaches 16 p q e
    way_reaches {p} {q} (more {m = m} e w) = meet 16 p m q (small p m e).1 (pair_reaches 16 p m e) (way_reaches w)

    first_small : {p q : ℕ} → Way (Enables t) p q → p < 16
    first_small {p} {q} (one e) = (small p q e).0
    first_small {p} {q} (more {m = m} e w) = (small p m e).0

    pub way_circle : (p : ℕ) → Way (Enables t) p p → has_circle t ≡ true
    unfolding has_circle
    way_circle p w = some_any 16 (λ p. reaches t 16 p p) p (first_small w) (way_reaches w)

    pub no_circle_lem : has_circle t ≡ false → (p : ℕ) → Way (Enables t) p p → ⊥
    no_circle_lem c p w = false_elim (has_circle t) c (way_circle p w)

  reaches_way : (k p q : ℕ) → reaches t k p q ≡ true → Way (Enables t) p q
  unfolding reaches
  reaches_way zero p q e = one e
  reaches_way (suc k) p q e =
      ⊎_elim (λ a. reaches_way k p q a) (λ a. way_join (reaches_way k p k a.0) (reaches_way k k q a.1)) (split k p q e)

  pub circle_way : has_circle t ≡ true → (p : ℕ) × Way (Enables t) p p
  unfolding has_circle
  circle_way c = let (p, l, h) = any_some 16 (λ p. reaches t 16 p p) c in (p, reaches_way 16 p p h)

-- ---- tables as their type has them

pub member_at : {A : Type 0} (l : List A) (k : ℕ) (d : A) → k < length l → Memᴰ (get_or l k d) l
member_at [] k d h = absurd (not-suc-le-zero h)
member_at (x ∷ l) zero d h = Memᴰ.head refl
member_at (x ∷ l) (suc k) d h = Memᴰ.tail (member_at l k d (le_of_suc-le-suc h))

-- a set that is not empty is the set of a step below 16, and its members are below 16
pub sets_below : (t : Tables) → length t.steps ≡ 16 → ((p : ℕ) → enabled_by t p < 2 ^ 16)
    → (p q : ℕ) → enables t p q ≡ true → (p < 16) × (q < 16)
unfolding enables
sets_below t size narrow p q h = (
  ⊎_elim (λ l. ltb-true p 16 l) (λ l. absurd (false_elim (bit (enabled_by t p) q) (beyond (ltb-false p 16 l)) h)) (decide (ltb p 16)),
  bit_below 16 (enabled_by t p) q (narrow p) h,
)
  where
    beyond : 16 ≤ p → bit (enabled_by t p) q ≡ false
    beyond l = ap (λ (x : ℕ). bit x q) (get_or-eq_default t.steps 0 {n = p} (rw size l)) ∙ bit_zero q

typed_narrow : (t : Tables) → OfType t → (p : ℕ) → enabled_by t p < 2 ^ 16
typed_narrow t o p =
    ⊎_elim (λ l. o.sets _ (member_at t.steps p 0 (rw o.steps (ltb-true p 16 l))))
    (λ l. rw (get_or-eq_default t.steps 0 {n = p} (rw o.steps (ltb-false p 16 l))) (omega arith)) (decide (ltb p 16))

pub circles : Circles
circles t o =
    (circle_way t, λ w. way_circle t (sets_below t o.steps (typed_narrow t o)) w.0 w.1)
