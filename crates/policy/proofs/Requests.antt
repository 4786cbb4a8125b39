-- Sets of requests. `same` holds of a request and itself alone, so a request is a member of a list exactly where it stands in it;
-- and a declared request has numbers that its history has a place for.
use Prim.Native.Nat.{ℕ, ◌<◌}
use native.Mathlib.Omega.{arith}
use mathlib.Core.Path.{◌≡◌, refl, sym, ap, ap₂}
use mathlib.Core.Logic.{◌⊎◌, inl, inr, ⊎_elim, ◌↔◌}
use mathlib.Core.Bool.{Bool, true, false, ◌&&◌, ◌||◌, false≢true}
use mathlib.Core.List.Memᴰ
use mathlib.Core.List.{
  List,
  [],
  ◌∷◌,
  Memᴰ,
}
use lib.Dec.{eqb, leb, ltb}
use borrow.Author.Tests.{eqb-true, eq-eqb, ltb-true, lt-ltb, leb-true, le-leb}
use Rattle.bits.proofs.Booleans.{and_left, and_right, and_both, or_cases, or_left, or_right}
use Rattle.policy.specs.declared.Tables.{Tables}
use Rattle.policy.specs.Tables.{person_at, person_declared, folder_declared, role_declared}
use Rattle.policy.specs.Request.{Request, read, write, start, step, same, member, has_place}
use Rattle.policy.specs.Rules.{declared}

-- ---- the same request

never : {A : Type 0} → false ≡ true → A
never e = absurd (false≢true e)

two_equal : (f : ℕ → ℕ → Request) (a b a' b' : ℕ) → eqb a a' && eqb b b' ≡ true → f a b ≡ f a' b'
two_equal f a b a' b' e =
    ap₂ f (eqb-true a a' (and_left (eqb a a') _ e)) (eqb-true b b' (and_right (eqb a a') _ e))

pub same_eq : (q r : Request) → same q r ≡ true → q ≡ r
unfolding same
same_eq (read s o) (read s' o') e = two_equal read s o s' o' e
same_eq (read s o) (write s' o') e = never e
same_eq (read s o) (start s' u') e = never e
same_eq (read s o) (step s' p' o') e = never e
same_eq (write s o) (read s' o') e = never e
same_eq (write s o) (write s' o') e = two_equal write s o s' o' e
same_eq (write s o) (start s' u') e = never e
same_eq (write s o) (step s' p' o') e = never e
same_eq (start s u) (read s' o') e = never e
same_eq (start s u) (write s' o') e = never e
same_eq (start s u) (start s' u') e = two_equal start s u s' u' e
same_eq (start s u) (step s' p' o') e = never e
same_eq (step s p o) (read s' o') e = never e
same_eq (step s p o) (write s' o') e = never e
same_eq (step s p o) (start s' u') e = never e
same_eq (step s p o) (step s' p' o') e =
    let f = and_left (eqb s s' && eqb p p') (eqb o o') e in
    let a = eqb-true s s' (and_left (eqb s s') _ f) in
    let b = eqb-true p p' (and_right (eqb s s') _ f) in
    let c = eqb-true o o' (and_right (eqb s s' && eqb p p') _ e) in
    cc

pub same_refl : (r : Request) → same r r ≡ true
unfolding same
same_refl (read s o) = and_both _ _ (eq-eqb s s refl) (eq-eqb o o refl)
same_refl (write s o) = and_both _ _ (eq-eqb s s refl) (eq-eqb o o refl)
same_refl (start s u) = and_both _ _ (eq-eqb s s refl) (eq-eqb u u refl)
same_refl (step s p o) = and_both _ _ (and_both _ _ (eq-eqb s s refl) (eq-eqb p p refl)) (eq-eqb o o refl)

-- ---- members of a list

pub member_none : (r : Request) → member [] r ≡ false
unfolding member
member_none r = refl

pub member_more : (q r : Request) (g : List Request) → member (q ∷ g) r ≡ same q r || member g r
unfolding member
member_more q r g = refl

pub member_head : (r : Request) (g : List Request) → member (r ∷ g) r ≡ true
unfolding member
member_head r g = or_left (same r r) (member g r) (same_refl r)

pub member_tail : (q r : Request) (g : List Request) → member g r ≡ true → member (q ∷ g) r ≡ true
unfolding member
member_tail q r g h = or_right (same q r) (member g r) h

pub member_cases : (q r : Request) (g : List Request) → member (q ∷ g) r ≡ true → (r ≡ q) ⊎ (member g r ≡ true)
unfolding member
member_cases q r g h = ⊎_elim (λ e. inl (sym (same_eq q r e))) (λ m. inr m) (or_cases (same q r) (member g r) h)

-- the set with one request more
pub added_one : (r : Request) (g : List Request) (q : Request) → (member (r ∷ g) q ≡ true) ↔ ((q ≡ r) ⊎ (member g q ≡ true))
added_one r g q = (member_cases r q g, ⊎_elim (λ (e : q ≡ r). rw e (member_head r g)) (λ m. member_tail r q g m))

pub member_in : (r : Request) (g : List Request) → member g r ≡ true → Memᴰ r g
unfolding member
member_in r [] h = never h
member_in r (q ∷ g) h = ⊎_elim (λ e. Memᴰ.head e) (λ m. Memᴰ.tail (member_in r g m)) (member_cases q r g h)

pub in_member : (r : Request) (g : List Request) → Memᴰ r g → member g r ≡ true
in_member r [] h = absurd (Memᴰ.not-nil h)
in_member r (q ∷ g) h =
    ⊎_elim (λ e. rw e (member_head q g)) (λ m. member_tail q r g (in_member r g m)) (Memᴰ.cases_cons h)

-- ---- declared requests

module _ (t : Tables) where
  pub person_below_lem : (s : ℕ) → person_declared t s ≡ true → s < 64
  unfolding person_declared
  person_below_lem s d = ltb-true s 64 (and_left (ltb s 64) _ d)

  -- below the range, a person is declared exactly where the entry is marked so
  pub declared_entry : (s : ℕ) → s < 64 → person_declared t s ≡ (person_at t s).declared
  unfolding person_declared
  declared_entry s l = ap (λ (b : Bool). b && (person_at t s).declared) (lt-ltb s 64 l)

  pub folder_below : (o : ℕ) → folder_declared t o ≡ true → o < 128
  unfolding folder_declared
  folder_below o d = ltb-true o 128 (and_left (ltb o 128) _ d)

  pub role_below : (k : ℕ) → role_declared t k ≡ true → k < 32
  unfolding role_declared
  role_below k d = ltb-true k 32 (and_left (ltb k 32) _ d)

  pub declared_person : (s p o : ℕ) → declared t (step s p o) ≡ true → person_declared t s ≡ true
  unfolding declared
  declared_person s p o d = and_left (person_declared t s) _ (and_left (person_declared t s && leb p 15) _ d)

  pub declared_step : (s p o : ℕ) → declared t (step s p o) ≡ true → p < 16
  unfolding declared
  declared_step s p o d =
      let l = leb-true p 15 (and_right (person_declared t s) _ (and_left (person_declared t s && leb p 15) _ d)) in omega arith

  pub declared_folder : (s p o : ℕ) → declared t (step s p o) ≡ true → folder_declared t o ≡ true
  unfolding declared
  declared_folder s p o d = and_right (person_declared t s && leb p 15) _ d

  pub step_declared : (s p o : ℕ) → person_declared t s ≡ true → p < 16 → folder_declared t o ≡ true → declared t (step s p o) ≡ true
  unfolding declared
  step_declared s p o d l f = and_both _ _ (and_both _ _ d (le-leb p 15 (omega arith))) f

  -- a declared request has a place in the history
  pub declared_place : (r : Request) → declared t r ≡ true → has_place r ≡ true
  unfolding declared has_place
  declared_place (read s o) d =
      and_both _ _ (lt-ltb s 64 (person_below_lem s (and_left _ _ d))) (lt-ltb o 128 (folder_below o (and_right (person_declared t s) _ d)))
  declared_place (write s o) d =
      and_both _ _ (lt-ltb s 64 (person_below_lem s (and_left _ _ d))) (lt-ltb o 128 (folder_below o (and_right (person_declared t s) _ d)))
  declared_place (start s u) d =
      and_both _ _ (lt-ltb s 64 (person_below_lem s (and_left _ _ d))) (lt-ltb u 64 (person_below_lem u (and_right (person_declared t s) _ d)))
  declared_place (step s p o) d =
      and_both _ _ (and_both _ _ (lt-ltb s 64 (person_below_lem s (declared_person s p o d))) (lt-ltb p 16 (declared_step s p o d)))
      (lt-ltb o 128 (folder_below o (declared_folder s p o d)))
