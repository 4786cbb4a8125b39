-- With neither low-water nor pipeline in force, every list of the calls of a list granted throughout from blank is granted throughout. The
-- granted set of such a list is compatible: its parties are declared, no person accessed folders of two rival firms that are not public,
-- and for each person one role covers all rights used. A part of a compatible set is compatible, and every request of the set passes after
-- any part of it.
use Prim.Native.Nat.{ℕ}
use mathlib.Core.Path.{◌≡◌, refl, sym, ap, ◌∙◌, subst}
use mathlib.Core.Logic.{◌⊎◌, inl, inr, ⊎_elim, ◌≢◌}
use mathlib.Core.Bool.{Bool, true, false}
use mathlib.Core.List.Memᴰ
use mathlib.Core.List.{
  List,
  [],
  ◌∷◌,
  Memᴰ,
}
use mathlib.Core.Option.{some}
use lib.Dec.{eqb}
use borrow.Author.Tests.{eqb-true, eqb-false}
use Rattle.bits.specs.Bits.{bit}
use Rattle.bits.proofs.Booleans.{implies_elim, implies_intro, decide, false_elim}
use Rattle.policy.specs.declared.Tables.{Tables}
use Rattle.policy.specs.Tables.{
  firm_at,
  folder_at,
  role_at,
  role_declared,
  in_force,
  wall_rule,
  low_water_rule,
  roles_rule,
  pipeline_rule,
}
use Rattle.policy.specs.Request.{Request, read, write, start, step, request_of, member}
use Rattle.policy.specs.Rules.{declared, counted}
use Rattle.policy.specs.Calls.{judge_over, judge_list}
use Rattle.policy.specs.Published.{
  requester,
  right_of,
  rivals_of,
  NotPublic,
  Access,
  Accessed,
  WallAccess,
  LowWater,
  Roles,
  Pipeline,
}
use Rattle.policy.proofs.Requests.{member_none, member_head, member_tail, member_cases}
use Rattle.policy.proofs.Accesses.{counted_some, some_counted}
use Rattle.policy.proofs.Published.{wall_published, low_water_published, roles_published, pipeline_published}
use Rattle.policy.proofs.Granted.{PassedOver, judge_passed, passed_judge, put_over, put_granted, granted_over, judge_more}

-- the folders' firms are one, or of different classes
Compatible : Tables → ℕ → ℕ → Type 0
Compatible t o o' = ((folder_at t o).firm ≡ (folder_at t o').firm) ⊎ (rivals_of t o ≢ rivals_of t o')

class_of_firm : (t : Tables) (o o' : ℕ) → (folder_at t o).firm ≡ (folder_at t o').firm → rivals_of t o ≡ rivals_of t o'
class_of_firm t o o' e = ap (λ (f : ℕ). (firm_at t f).class) e

compatible_sym : (t : Tables) (o o' : ℕ) → Compatible t o o' → Compatible t o' o
unfolding Compatible
compatible_sym t o o' (inl e) = inl (sym e)
compatible_sym t o o' (inr n) = inr (λ e. n (sym e))

-- one access of a person names one folder
one_folder : (r : Request) (s o o' : ℕ) → Access r s o → Access r s o' → o ≡ o'
one_folder (read s o) s' a b p q = sym p.1 ∙ q.1
one_folder (write s o) s' a b p q = sym p.1 ∙ q.1
one_folder (start s u) s' a b p q = absurd p
one_folder (step s n o) s' a b p q = sym p.1 ∙ q.1

-- role k holds the rights of all requests of person s in the set
Covers : Tables → (Request → Bool) → ℕ → ℕ → Type 0
Covers t S s k = (q : Request) → S q ≡ true → requester q ≡ s → bit (role_at t k).rights (right_of t q) ≡ true

-- what holds of a set that was granted one request after another
pub record Fair (t : Tables) (S : Request → Bool) : Type 0 where
  pub known : (r : Request) → S r ≡ true → declared t r ≡ true
  clean :
      in_force t wall_rule ≡ true → (s o o' : ℕ) → Accessed t S s o → NotPublic t o → Accessed t S s o' → NotPublic t o'
      → Compatible t o o'
  role :
      in_force t roles_rule ≡ true → (r : Request) → S r ≡ true
      → (k : ℕ) × (role_declared t k ≡ true) × Covers t S (requester r) k

pub fair_none : (t : Tables) → Fair t (member [])
fair_none t =
    record {
      known = λ r h. absurd (false_elim (member [] r) (member_none r) h);
      clean = λ on s o o' a n b m. absurd (false_elim (member [] a.0) (member_none a.0) a.1.1);
      role = λ on r h. absurd (false_elim (member [] r) (member_none r) h);
    }

module _ (t : Tables) (g : List Request) (r : Request) (fair : Fair t (member g)) (p : PassedOver t (member g) r) where
  more_known : (q : Request) → member (r ∷ g) q ≡ true → declared t q ≡ true
  more_known q m = ⊎_elim (λ e. rw e p.parties) (λ h. fair.known q h) (member_cases r q g m)

  -- an access in the larger set is the new one, or in the smaller
  access_cases : (s o : ℕ) → Accessed t (member (r ∷ g)) s o → Access r s o ⊎ Accessed t (member g) s o
  access_cases s o (q, h, a) =
      ⊎_elim (λ e. inl (subst (λ (x : Request). Access x s o) e a)) (λ m. inr (q, (h.0, m), a)) (member_cases r q g h.1)

  new_compatible : in_force t wall_rule ≡ true → (s o o' : ℕ) → Access r s o → NotPublic t o → Accessed t (member g) s o'
      → NotPublic t o' → Compatible t o o'
  unfolding Compatible
  new_compatible on s o o' a k b l =
      ⊎_elim
      (λ w.
      let (o'', c, m, e) = w in
      ⊎_elim (λ f. inl (e ∙ f)) (λ n. inr (λ d. n (sym (class_of_firm t o o'' e) ∙ d))) (fair.clean on s o'' o' c m b l))
      (λ w. inr (w o' b l))
      ((wall_published t (member g) r).0 (implies_elim _ _ p.walled on) s o a k)

  more_clean : in_force t wall_rule ≡ true → (s o o' : ℕ) → Accessed t (member (r ∷ g)) s o → NotPublic t o
      → Accessed t (member (r ∷ g)) s o' → NotPublic t o' → Compatible t o o'
  unfolding Compatible
  more_clean on s o o' a k b l =
      ⊎_elim
      (λ x.
      ⊎_elim (λ y. inl (ap (λ (i : ℕ). (folder_at t i).firm) (one_folder r s o o' x y))) (λ y. new_compatible on s o o' x k y l)
      (access_cases s o' b))
      (λ x.
      ⊎_elim (λ y. compatible_sym t o' o (new_compatible on s o' o y l x k)) (λ y. fair.clean on s o o' x k y l)
      (access_cases s o' b))
      (access_cases s o a)

  more_role : in_force t roles_rule ≡ true → (q : Request) → member (r ∷ g) q ≡ true
      → (k : ℕ) × (role_declared t k ≡ true) × Covers t (member (r ∷ g)) (requester q) k
  unfolding Covers
  more_role on q m =
      ⊎_elim
      (λ y.
      let same_person = eqb-true (requester q) (requester r) y in
      let (k, d, c) = (roles_published t (member g) r).0 (implies_elim _ _ p.covered on) in (
        k,
        d,
        λ q' m' e.
            ⊎_elim (λ i. c q' (inl i)) (λ h. c q' (inr ((fair.known q' h, h), e ∙ same_person))) (member_cases r q' g m'),
      ))
      (λ n.
      let other = eqb-false (requester q) (requester r) n in
      let old = ⊎_elim (λ i. absurd (other (ap requester i))) (λ h. h) (member_cases r q g m) in
      let (k, d, c) = fair.role on q old in (
        k,
        d,
        λ q' m' e.
            ⊎_elim (λ i. absurd (other (sym e ∙ ap requester i))) (λ h. c q' h e) (member_cases r q' g m'),
      ))
      (decide (eqb (requester q) (requester r)))

  pub fair_more : Fair t (member (r ∷ g))
  fair_more = record { known = more_known; clean = more_clean; role = more_role }

-- a request of a fair set passes after any part of the set
module _ (t : Tables) (S H : Request → Bool) (fair : Fair t S) (part : (q : Request) → H q ≡ true → S q ≡ true) where
  in_part : (s o : ℕ) → Accessed t H s o → Accessed t S s o
  in_part s o (q, h, a) = (q, (h.0, part q h.1), a)

  passes_wall : in_force t wall_rule ≡ true → (r : Request) → S r ≡ true → (s o : ℕ) → Access r s o → NotPublic t o
      → WallAccess t H s o
  unfolding Compatible
  passes_wall on r m s o a k =
      ⊎_elim (λ y. inl (counted_some t H s (folder_at t o).firm y))
      (λ n. inr (λ o' b l.
      ⊎_elim (λ e. absurd (false_elim (counted t H s (folder_at t o).firm) n (some_counted t H s _ o' b l e))) (λ d. d)
      (fair.clean on s o o' (r, (fair.known r m, m), a) k (in_part s o' b) l)))
      (decide (counted t H s (folder_at t o).firm))

  passes_roles : in_force t roles_rule ≡ true → (r : Request) → S r ≡ true → Roles t H r
  unfolding Covers
  passes_roles on r m =
      let (k, d, c) = fair.role on r m in
      (k, d, λ q w. ⊎_elim (λ e. rw e (c r m refl)) (λ i. c q (part q i.0.1) i.1) w)

  -- where low-water and the pipeline permit it
  pub fair_passed : (r : Request) → S r ≡ true → (in_force t low_water_rule ≡ true → LowWater t H r)
      → (in_force t pipeline_rule ≡ true → Pipeline t H r) → PassedOver t H r
  fair_passed r m low pipe =
      record {
        parties = fair.known r m;
        walled = implies_intro _ _ (λ on. (wall_published t H r).1 (passes_wall on r m));
        levelled = implies_intro _ _ (λ on. (low_water_published t H r).1 (low on));
        covered = implies_intro _ _ (λ on. (roles_published t H r).1 (passes_roles on r m));
        piped = implies_intro _ _ (λ on. (pipeline_published t H r).1 (pipe on));
      }

-- every call is granted over the set granted so far
unfoldable pub AllGranted : Tables → List Request → List (List ℕ) → Type 0
AllGranted t g [] = Unit {0}
AllGranted t g (bytes ∷ calls) = (judge_over t (member g) bytes ≡ 0) × AllGranted t (put_over t g bytes) calls

pub zeros_granted : (t : Tables) (g : List Request) (calls : List (List ℕ))
    → ((n : ℕ) → Memᴰ n (judge_list t g calls) → n ≡ 0) → AllGranted t g calls
unfolding AllGranted
zeros_granted t g [] h = tt
zeros_granted t g (bytes ∷ calls) h = (
  h (judge_over t (member g) bytes) (rw (judge_more t g bytes calls) (Memᴰ.head refl)),
  zeros_granted t (put_over t g bytes) calls (λ n m. h n (rw (judge_more t g bytes calls) (Memᴰ.tail m))),
)

pub granted_zeros : (t : Tables) (g : List Request) (calls : List (List ℕ)) → AllGranted t g calls
    → (n : ℕ) → Memᴰ n (judge_list t g calls) → n ≡ 0
unfolding AllGranted judge_list
granted_zeros t g [] h n m = absurd (Memᴰ.not-nil m)
granted_zeros t g (bytes ∷ calls) h n m =
    ⊎_elim (λ e. e ∙ h.0) (λ k. granted_zeros t (put_over t g bytes) calls h.1 n k)
    (Memᴰ.cases_cons (rw (judge_more t g bytes calls) at m))

module _ (t : Tables) where
  -- each call is a request of the set
  Calls : (Request → Bool) → List (List ℕ) → Type 0
  Calls S calls = (bytes : List ℕ) → Memᴰ bytes calls → (r : Request) × (request_of bytes ≡ some r) × (S r ≡ true)

  granted_stays : (g : List Request) (calls : List (List ℕ)) → AllGranted t g calls
      → (r : Request) → member g r ≡ true → member (granted_over t g calls) r ≡ true
  unfolding AllGranted granted_over
  granted_stays g [] h r m = m
  granted_stays g (bytes ∷ calls) h r m =
      let (q, d, w) = judge_passed t (member g) bytes h.0 in
      granted_stays (put_over t g bytes) calls h.1 r (rw (put_granted t g bytes q d h.0) (member_tail q r g m))

  granted_fair : (g : List Request) (calls : List (List ℕ)) → AllGranted t g calls → Fair t (member g)
      → Fair t (member (granted_over t g calls)) × Calls (member (granted_over t g calls)) calls
  unfolding AllGranted granted_over Calls
  granted_fair g [] h fair = (fair, λ bytes m. absurd (Memᴰ.not-nil m))
  granted_fair g (bytes ∷ calls) h fair =
      let (r, d, w) = judge_passed t (member g) bytes h.0 in
      let e = put_granted t g bytes r d h.0 in
      let next : Fair t (member (put_over t g bytes)) = rw e (fair_more t g r fair w) in
      let rest = granted_fair (put_over t g bytes) calls h.1 next in (
        rest.0,
        λ b m.
            ⊎_elim
            (λ i. (r, ap request_of i ∙ d, granted_stays (put_over t g bytes) calls h.1 r (rw e (member_head r g))))
            (λ n. rest.1 b n)
            (Memᴰ.cases_cons m),
      )

  module _ (S : Request → Bool) (fair : Fair t S) (low : in_force t low_water_rule ≡ false) (pipe : in_force t pipeline_rule ≡ false) where
    regranted : (g : List Request) (calls : List (List ℕ))
        → ((q : Request) → member g q ≡ true → S q ≡ true) → Calls S calls → AllGranted t g calls
    unfolding AllGranted Calls
    regranted g [] part each = tt
    regranted g (bytes ∷ calls) part each =
        let (r, d, m) = each bytes (Memᴰ.head refl) in
        let passed =
        fair_passed t S (member g) fair part r m (λ on. absurd (false_elim (in_force t low_water_rule) low on))
        (λ on. absurd (false_elim (in_force t pipeline_rule) pipe on)) in
        let z = passed_judge t (member g) bytes r d passed in
        let e = put_granted t g bytes r d z in (
          z,
          regranted (put_over t g bytes) calls
              (λ q k. ⊎_elim (λ i. rw i m) (λ h. part q h) (member_cases r q g (rw e at k)))
              (λ b k. each b (Memᴰ.tail k)),
        )

  -- every list of calls of a list granted throughout is granted throughout, from the empty set
  pub reordered : in_force t low_water_rule ≡ false → in_force t pipeline_rule ≡ false → (xs ys : List (List ℕ))
      → ((bytes : List ℕ) → Memᴰ bytes ys → Memᴰ bytes xs) → AllGranted t [] xs → AllGranted t [] ys
  unfolding Calls
  reordered low pipe xs ys part h =
      let (fair, each) = granted_fair [] xs h (fair_none t) in
      regranted (member (granted_over t [] xs)) fair low pipe [] ys
      (λ q m. absurd (false_elim (member [] q) (member_none q) m)) (λ b m. each b (part b m))
