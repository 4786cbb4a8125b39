-- Under the pipeline rule the granted set fixes the order of the granted steps on each folder. Newest first, the steps on a folder are
-- a chain: each is enabled by the one before it, since all earlier ones enable a step done already. A chain is sorted by the ways of
-- the enabling relation, which has no circle, and two sorted lists with the same members are equal.
use Prim.Native.Nat.{ℕ}
use mathlib.Core.Path.{◌≡◌, refl, sym, ap, ap₂, ◌∙◌, subst}
use mathlib.Core.Logic.{◌⊎◌, inl, inr, ⊎_elim}
use mathlib.Core.Bool.{Bool, true, false, cond, false≢true}
use mathlib.Core.List.Memᴰ
use mathlib.Core.List.{
  List,
  [],
  ◌∷◌,
  Memᴰ,
}
use lib.Dec.{eqb}
use borrow.Author.Tests.{eqb-true, eqb-false, eq-eqb}
use Rattle.bits.proofs.Booleans.{implies_elim, false_elim}
use Rattle.policy.specs.declared.Tables.{Tables}
use Rattle.policy.specs.Tables.{enables, in_force, pipeline_rule}
use Rattle.policy.specs.Request.{Request, read, write, start, step, same, member}
use Rattle.policy.specs.Rules.{declared}
use Rattle.policy.specs.Published.{Applied, Pipeline}
use Rattle.policy.specs.Ways.{Way, one, Enables}
use Rattle.policy.specs.Agreement.{Done, steps_on}
use Rattle.policy.proofs.Requests.{member_none, member_head, member_tail, member_cases}
use Rattle.policy.proofs.Published.{pipeline_published}
use Rattle.policy.proofs.Circles.{way_join}
use Rattle.policy.proofs.Granted.{PassedOver, granted_over, granted_keeps}

-- ---- sorted lists

-- each element stands after all those that follow it in the list
Sorted : {A : Type 0} (R : A → A → Type 0) → List A → Type 0
Sorted R [] = Unit {0}
Sorted {A} R (x ∷ l) = ((y : A) → Memᴰ y l → R y x) × Sorted R l

module _ {A : Type 0} (R : A → A → Type 0) (asym : (x y : A) → R x y → R y x → ⊥) where
  not_twice : (x z : A) (l : List A) → ((y : A) → Memᴰ y l → R y x) → z ≡ x → Memᴰ z l → ⊥
  not_twice x z l s e h = let r : R x x = rw e at (s z h) in asym x x r r

  sorted_first : (x y : A) (l m : List A) → Sorted R (x ∷ l) → Sorted R (y ∷ m) → Memᴰ x (y ∷ m) → Memᴰ y (x ∷ l) → x ≡ y
  unfolding Sorted
  sorted_first x y l m s s' h h' =
      ⊎_elim (λ e. e)
      (λ i. ⊎_elim (λ e. sym e) (λ j. absurd (asym x y (s'.0 x i) (s.0 y j))) (Memᴰ.cases_cons h'))
      (Memᴰ.cases_cons h)

  sorted_unique : (l m : List A) → Sorted R l → Sorted R m
      → ((x : A) → Memᴰ x l → Memᴰ x m) → ((x : A) → Memᴰ x m → Memᴰ x l) → l ≡ m
  unfolding Sorted
  sorted_unique [] [] s s' f g = refl
  sorted_unique [] (y ∷ m) s s' f g = absurd (Memᴰ.not-nil (g y (Memᴰ.head refl)))
  sorted_unique (x ∷ l) [] s s' f g = absurd (Memᴰ.not-nil (f x (Memᴰ.head refl)))
  sorted_unique (x ∷ l) (y ∷ m) s s' f g =
      let first = sorted_first x y l m s s' (f x (Memᴰ.head refl)) (g y (Memᴰ.head refl)) in
      ap₂ ◌∷◌ first
      (sorted_unique l m s.1 s'.1
      (λ z h.
      ⊎_elim (λ e. absurd (not_twice x z l s.0 (e ∙ sym first) h)) (λ i. i)
      (Memᴰ.cases_cons (f z (Memᴰ.tail h))))
      (λ z h.
      ⊎_elim (λ e. absurd (not_twice y z m s'.0 (e ∙ first) h)) (λ i. i)
      (Memᴰ.cases_cons (g z (Memᴰ.tail h)))))

-- ---- the steps on a folder

-- each step is enabled by the one before it, and the first is create
Chain : Tables → List Done → Type 0
Chain t [] = Unit {0}
Chain t (x ∷ []) = x.number ≡ 0
Chain t (x ∷ y ∷ l) = (enables t y.number x.number ≡ true) × Chain t (y ∷ l)

abbrev Before : Tables → Done → Done → Type 0
Before t x y = Way (Enables t) x.number y.number

chain_rest : (t : Tables) (x : Done) (l : List Done) → Chain t (x ∷ l) → Chain t l
unfolding Chain
chain_rest t x [] c = tt
chain_rest t x (y ∷ l) c = c.1

chain_way : (t : Tables) (x : Done) (l : List Done) → Chain t (x ∷ l) → (y : Done) → Memᴰ y l → Before t y x
unfolding Chain
chain_way t x [] c y h = absurd (Memᴰ.not-nil h)
chain_way t x (z ∷ l) c y h =
    ⊎_elim (λ e. one (rw e c.0)) (λ i. way_join (chain_way t z l c.1 y i) (one c.0)) (Memᴰ.cases_cons h)

chain_sorted : (t : Tables) (l : List Done) → Chain t l → Sorted (Before t) l
unfolding Sorted
chain_sorted t [] c = tt
chain_sorted t (x ∷ l) c = (chain_way t x l c, chain_sorted t l (chain_rest t x l c))

-- all but the newest enable a step of the chain
chain_next : (t : Tables) (x : Done) (l : List Done) → Chain t (x ∷ l) → (y : Done) → Memᴰ y l
    → (z : Done) × (Memᴰ z (x ∷ l)) × (enables t y.number z.number ≡ true)
unfolding Chain
chain_next t x [] c y h = absurd (Memᴰ.not-nil h)
chain_next t x (w ∷ l) c y h =
    ⊎_elim (λ e. (x, Memᴰ.head refl, rw e c.0))
    (λ i. let (z, m, e) = chain_next t w l c.1 y i in (z, Memᴰ.tail m, e))
    (Memᴰ.cases_cons h)

-- a step of the set stands in the list of its folder, and what stands there is a step of the set
member_steps : (o s p : ℕ) (g : List Request) → member g (step s p o) ≡ true
    → Memᴰ (record { person = s; number = p }) (steps_on o g)
unfolding steps_on member same
member_steps o s p [] h = absurd (false≢true h)
member_steps o s p (read s' f ∷ g) h = member_steps o s p g h
member_steps o s p (write s' f ∷ g) h = member_steps o s p g h
member_steps o s p (start s' u ∷ g) h = member_steps o s p g h
member_steps o s p (step s' p' f ∷ g) h =
    go (eqb f o) refl (member_steps o s p g) (member_cases (step s' p' f) (step s p o) g h)
  where
    this : Done
    this = record { person = s; number = p }

    go : (b : Bool) → eqb f o ≡ b → (member g (step s p o) ≡ true → Memᴰ this (steps_on o g))
        → (step s p o ≡ step s' p' f) ⊎ (member g (step s p o) ≡ true)
        → Memᴰ this (cond b (record { person = s'; number = p' } ∷ steps_on o g) (steps_on o g))
    go true q rest (inl e) =
        let a : s ≡ s' = cc in
        let b : p ≡ p' = cc in
        Memᴰ.head (λ i. record { person = a i; number = b i })
    go true q rest (inr m) = Memᴰ.tail (rest m)
    go false q rest (inl e) = let a : o ≡ f = cc in absurd (eqb-false f o q (sym a))
    go false q rest (inr m) = rest m

steps_member : (o : ℕ) (x : Done) (g : List Request) → Memᴰ x (steps_on o g)
    → member g (step x.person x.number o) ≡ true
unfolding steps_on
steps_member o x [] h = absurd (Memᴰ.not-nil h)
steps_member o x (read s f ∷ g) h = member_tail _ _ g (steps_member o x g h)
steps_member o x (write s f ∷ g) h = member_tail _ _ g (steps_member o x g h)
steps_member o x (start s u ∷ g) h = member_tail _ _ g (steps_member o x g h)
steps_member o x (step s p f ∷ g) h = go (eqb f o) refl (steps_member o x g) h
  where
    this : Request
    this = step x.person x.number o

    go : (b : Bool) → eqb f o ≡ b → (Memᴰ x (steps_on o g) → member g this ≡ true)
        → Memᴰ x (cond b (record { person = s; number = p } ∷ steps_on o g) (steps_on o g)) → member (step s p f ∷ g) this ≡ true
    go true q rest m =
        ⊎_elim
        (λ e.
        let k : this ≡ step s p f =
        ap (λ (y : Done). step y.person y.number o) e ∙ ap (step s p) (sym (eqb-true f o q)) in
        subst (λ (r : Request). member (step s p f ∷ g) r ≡ true) (sym k) (member_head (step s p f) g))
        (λ n. member_tail (step s p f) this g (rest n)) (Memᴰ.cases_cons m)
    go false q rest m = member_tail (step s p f) this g (rest m)

-- ---- one more granted step

module _ (t : Tables) (g : List Request) (known : (r : Request) → member g r ≡ true → declared t r ≡ true) where
  applied_steps : (p o : ℕ) → Applied t (member g) p o → (x : Done) × (Memᴰ x (steps_on o g)) × (x.number ≡ p)
  applied_steps p o (s, h) = (record { person = s; number = p }, member_steps o s p g h.1, refl)

  steps_applied : (o : ℕ) (x : Done) → Memᴰ x (steps_on o g) → Applied t (member g) x.number o
  steps_applied o x h = let m = steps_member o x g h in (x.person, (known _ m, m))

  chain_step : (o s q : ℕ) → Chain t (steps_on o g) → Pipeline t (member g) (step s q o)
      → Chain t (record { person = s; number = q } ∷ steps_on o g)
  unfolding Chain
  chain_step o s q c h = go (steps_on o g) refl c h
    where
      go : (l : List Done) → steps_on o g ≡ l → Chain t l → Pipeline t (member g) (step s q o)
          → Chain t (record { person = s; number = q } ∷ l)
      go [] e c (inl w) = w.0
      go [] e c (inr w) =
          let (x, m, n) = applied_steps w.1.0 o w.1.1 in absurd (Memᴰ.not-nil (rw e at m))
      go (x ∷ l) e c (inl w) = absurd (w.1 x.number (steps_applied o x (rw e (Memᴰ.head refl))))
      go (x ∷ l) e c (inr w) =
          let (p, a, enabled, none) = w.1 in
          let (y, m, n) = applied_steps p o a in
          ⊎_elim
          (λ i.
          let k : p ≡ x.number = sym n ∙ ap (λ (d : Done). d.number) i in
          (rw k at enabled, c))
          (λ k.
          let (z, m', f) = chain_next t x l c y k in
          absurd (none z.number (steps_applied o z (rw e m')) (rw n at f)))
          (Memᴰ.cases_cons (rw e at m))

pub record Lined (t : Tables) (g : List Request) : Type 0 where
  known : (r : Request) → member g r ≡ true → declared t r ≡ true
  chain : (o : ℕ) → Chain t (steps_on o g)

module _ (t : Tables) (on : in_force t pipeline_rule ≡ true) where
  pub lined_none : Lined t []
  unfolding steps_on Chain
  lined_none = record { known = λ r h. absurd (false_elim (member [] r) (member_none r) h); chain = λ o. tt }

  -- a granted step goes on with the chain of its folder
  chain_new : (g : List Request) (s q o : ℕ) → Lined t g → PassedOver t (member g) (step s q o)
      → Chain t (record { person = s; number = q } ∷ steps_on o g)
  chain_new g s q o l p =
      chain_step t g l.known o s q (l.chain o)
      ((pipeline_published t (member g) (step s q o)).0 (implies_elim _ _ p.piped on))

  chain_more : (g : List Request) (r : Request) → Lined t g → PassedOver t (member g) r → (o : ℕ) → Chain t (steps_on o (r ∷ g))
  unfolding steps_on
  chain_more g (read s f) l p o = l.chain o
  chain_more g (write s f) l p o = l.chain o
  chain_more g (start s u) l p o = l.chain o
  chain_more g (step s q f) l p o = go (eqb f o) refl
    where
      go : (b : Bool) → eqb f o ≡ b → Chain t (cond b (record { person = s; number = q } ∷ steps_on o g) (steps_on o g))
      go true e =
          subst (λ (i : ℕ). Chain t (record { person = s; number = q } ∷ steps_on i g)) (eqb-true f o e) (chain_new g s q f l p)
      go false e = l.chain o

  pub lined_more : (g : List Request) (r : Request) → Lined t g → PassedOver t (member g) r → Lined t (r ∷ g)
  lined_more g r l p =
      record {
        known = λ q m. ⊎_elim (λ e. rw e p.parties) (λ h. l.known q h) (member_cases r q g m);
        chain = chain_more g r l p;
      }

  -- a way leads to a granted step from each step done before on its folder
  pub new_way : (g : List Request) (s p s' q o : ℕ) → Lined t g → PassedOver t (member g) (step s' q o)
      → member g (step s p o) ≡ true → Way (Enables t) p q
  new_way g s p s' q o l passed m = chain_way t _ _ (chain_new g s' q o l passed) _ (member_steps o s p g m)

  -- of two steps granted one after the other on a folder, the first enables the second
  pub next_enabled : (g : List Request) (s p s' q o : ℕ) → Lined t g → PassedOver t (member g) (step s p o)
      → PassedOver t (member (step s p o ∷ g)) (step s' q o) → enables t p q ≡ true
  unfolding steps_on Chain
  next_enabled g s p s' q o l first second =
      (rw (eq-eqb o o refl) at (chain_new (step s p o ∷ g) s' q o (lined_more g (step s p o) l first) second)).0

  lined_after : (calls : List (List ℕ)) → Lined t (granted_over t [] calls)
  lined_after calls = granted_keeps t (Lined t) lined_more [] calls lined_none

  -- the same set was granted: the steps on each folder came in the same order, newest first
  pub same_order : ((p : ℕ) → Way (Enables t) p p → ⊥) → (xs ys : List (List ℕ))
      → ((r : Request) → member (granted_over t [] xs) r ≡ member (granted_over t [] ys) r)
      → (o : ℕ) → steps_on o (granted_over t [] xs) ≡ steps_on o (granted_over t [] ys)
  same_order no_circle_lem xs ys h o =
      sorted_unique (Before t) (λ x y v w. no_circle_lem x.number (way_join v w)) _ _
      (chain_sorted t _ ((lined_after xs).chain o)) (chain_sorted t _ ((lined_after ys).chain o))
      (λ d m. member_steps o d.person d.number _ (sym (h _) ∙ steps_member o d _ m))
      (λ d m. member_steps o d.person d.number _ (h _ ∙ steps_member o d _ m))
