-- An order in which each job may come before each later one is granted if any order is: in that one its first job is moved to the front,
-- then its second, and so on. Two neighbours change places where the second may come before the first. Wall and roles permit it, as they
-- permit the whole set; low-water, since the second leaves a level that suffices for the first; the pipeline, since of two steps granted
-- one after the other on a folder the first enables the second, so that these two are on different folders.
use Prim.Native.Nat.{ℕ}
use mathlib.Core.Path.{◌≡◌, refl, sym, ap, ◌∙◌, subst, fun_ext}
use mathlib.Core.Logic.{◌⊎◌, inl, inr, ⊎_elim, ◌↔◌}
use mathlib.Core.Bool.{Bool, true, ◌||◌}
use mathlib.Core.List.{List, [], ◌∷◌, Memᴰ, Permᴰ}
use Rattle.bits.proofs.Booleans.{and_left, and_right, or_swap}
use Rattle.policy.specs.declared.Tables.{Tables}
use Rattle.policy.specs.declared.Job.{Job}
use Rattle.policy.specs.Tables.{enables, in_force, pipeline_rule}
use Rattle.policy.specs.Request.{Request, read, write, start, step, same, member}
use Rattle.policy.specs.Published.{Observes, Observed, Applied, Pipeline}
use Rattle.policy.proofs.Requests.{member_head, member_tail, member_cases, added_one}
use Rattle.policy.proofs.Granted.{PassedOver}
use Rattle.policy.proofs.Lowering.{observed_more}
use Rattle.policy.proofs.Reordering.{Fair, fair_more, fair_passed}
use Rattle.policy.proofs.StepOrder.{next_enabled}
use Rattle.policy.proofs.Permuted.{permuted_in}
use Rattle.precedence.specs.Precedence.{job_level, levels_permit, may_precede, Ordered}
use Rattle.precedence.proofs.Reorderings.{Inserted, here, there, taken_out}
use Rattle.precedence.proofs.Jobs.{Asks, levels_permit_lem, steps_permit_lem}
use Rattle.precedence.proofs.Granting.{Granted, Good, good_more, low_water_passed, pipeline_passed}

-- ---- the pipeline looks at one folder

same_steps : (t : Tables) (H K : Request → Bool) (s q o : ℕ) → ((p : ℕ) → Applied t H p o → Applied t K p o)
    → ((p : ℕ) → Applied t K p o → Applied t H p o) → Pipeline t H (step s q o) → Pipeline t K (step s q o)
same_steps t H K s q o forth back w =
    ⊎_elim (λ v. inl (v.0, λ p a. v.1 p (back p a)))
    (λ v. let (p, a, e, last) = v.1 in inr (v.0, (p, forth p a, e, λ d b. last d (back d b)))) w

-- a request that is no step on the folder of q changes nothing for q
pipeline_elsewhere : (t : Tables) (g : List Request) (r q : Request)
    → ((s p s' p' o : ℕ) → r ≡ step s p o → q ≡ step s' p' o → ⊥)
    → Pipeline t (member (r ∷ g)) q ↔ Pipeline t (member g) q
pipeline_elsewhere t g r (read s o) apart = (λ w. w, λ w. w)
pipeline_elsewhere t g r (write s o) apart = (λ w. w, λ w. w)
pipeline_elsewhere t g r (start s u) apart = (λ w. w, λ w. w)
pipeline_elsewhere t g r (step s q o) apart =
    (same_steps t (member (r ∷ g)) (member g) s q o less more, same_steps t (member g) (member (r ∷ g)) s q o more less)
  where
    more : (p : ℕ) → Applied t (member g) p o → Applied t (member (r ∷ g)) p o
    more p (u, d) = (u, (d.0, member_tail r _ g d.1))

    less : (p : ℕ) → Applied t (member (r ∷ g)) p o → Applied t (member g) p o
    less p (u, d) =
        (u, (d.0, ⊎_elim (λ e. absurd (apart u p s q o (sym e) refl)) (λ m. m) (member_cases r (step u p o) g d.1)))

-- ---- neighbours change places

observed_with : (t : Tables) (g : List Request) (r : Request) → PassedOver t (member g) r → (s o : ℕ)
    → Observed t (member (r ∷ g)) s o ↔ (Observes r s o ⊎ Observed t (member g) s o)
observed_with t g r p = observed_more t (member g) (member (r ∷ g)) r p.parties (added_one r g)

module _ (t : Tables) (g : List Request) (x y : Job) (r q : Request) (good : Good t g) (first : Asks t x r) (second : Asks t y q)
    (passed : PassedOver t (member g) r) (next : PassedOver t (member (r ∷ g)) q) (may : may_precede t y x ≡ true) where
  fair_both : Fair t (member (q ∷ r ∷ g))
  fair_both = fair_more t (r ∷ g) q (fair_more t g r good.fair passed) next

  apart : in_force t pipeline_rule ≡ true → (s p s' p' o : ℕ) → r ≡ step s p o → q ≡ step s' p' o → ⊥
  unfolding may_precede
  apart on s p s' p' o e f =
      let (i, a, b, c) = (first.steps s p o).0 e in
      let (i', a', b', c') = (second.steps s' p' o).0 f in
      let enabled : enables t p p' ≡ true =
      next_enabled t on g s p s' p' o (good.lined on) (rw e at passed) (rw (e, f) at next) in
      (steps_permit_lem t y x).0 (and_right (levels_permit t y x) _ may) on i' i (c' ∙ sym c) (rw (b, b') enabled)

  second_first : PassedOver t (member g) q
  second_first =
      fair_passed t (member (q ∷ r ∷ g)) (member g) fair_both (λ k m. member_tail q k _ (member_tail r k g m)) q (member_head q _)
      (λ on. (second.needs (member g)).1 (λ n.
      let (a, b) = (second.needs (member (r ∷ g))).0 (low_water_passed t _ q next on) n in
      (a, λ o w. b o ((observed_with t g r passed _ o).1 (inr w)))))
      (λ on. (pipeline_elsewhere t g r q (apart on)).0 (pipeline_passed t _ q next on))

  first_second : PassedOver t (member (q ∷ g)) r
  unfolding may_precede job_level
  first_second =
      fair_passed t (member (q ∷ r ∷ g)) (member (q ∷ g)) fair_both
      (λ k m. ⊎_elim (λ e. rw e (member_head q _)) (λ h. member_tail q k _ (member_tail r k g h)) (member_cases q k g m))
      r (member_tail q r _ (member_head r g))
      (λ on. (first.needs (member (q ∷ g))).1 (λ n.
      let (a, b) = (first.needs (member g)).0 (low_water_passed t _ r passed on) n in (
        a,
        λ o w.
            ⊎_elim
            (λ v.
            let (l, e, f) = (second.lowers _ o).0 v in
            rw (← f) ((levels_permit_lem t y x).0 (and_left (levels_permit t y x) _ may) on l n e))
            (λ v. b o v) ((observed_with t g q second_first _ o).0 w),
      )))
      (λ on. (pipeline_elsewhere t g q r (λ s p s' p' o e f. apart on s' p' s p o f e)).1 (pipeline_passed t _ r passed on))

-- ---- orders

module _ (t : Tables) where
  -- what is granted depends on the set alone
  same_granted : (jobs : List Job) (g g' : List Request) → member g ≡ member g' → Granted t g jobs → Granted t g' jobs
  unfolding Granted member
  same_granted [] g g' e h = tt
  same_granted (j ∷ jobs) g g' e (r, asks, passed, rest) = (
    r,
    asks,
    subst (λ (H : Request → Bool). PassedOver t H r) e passed,
    same_granted jobs (r ∷ g) (r ∷ g') (ap {B = Request → Bool} (λ (H : Request → Bool) (k : Request). same r k || H k) e) rest,
  )

  -- a job that may come before all others of a granted order can come first
  front : {x : Job} {l m : List Job} → Inserted x l m → (g : List Request) → Good t g → Granted t g m
      → ((y : Job) → Memᴰ y l → may_precede t x y ≡ true) → Granted t g (x ∷ l)
  unfolding Granted member
  front (here {l = l} e) g good h may = subst (λ (z : Job). Granted t g (z ∷ l)) (sym e) h
  front {x} (there {y = y} {l = l} i) g good (r, asks, passed, rest) may =
      let (q, asks', next, more) = front i (r ∷ g) (good_more t g r good passed) rest (λ z m. may z (Memᴰ.tail m)) in
      let before = may y (Memᴰ.head refl) in (
        q,
        asks',
        second_first t g y x r q good asks asks' passed next before,
        (
          r,
          asks,
          first_second t g y x r q good asks asks' passed next before,
          same_granted l (q ∷ r ∷ g) (r ∷ q ∷ g) (fun_ext (λ k. or_swap (same q k) (same r k) (member g k))) more,
        ),
      )

  pub in_order : (order : List Job) {m : List Job} (g : List Request) → Good t g → Permᴰ order m → Granted t g m
      → Ordered t order → Granted t g order
  unfolding Granted Ordered
  in_order [] g good d h may = tt
  in_order (x ∷ order) g good d h may =
      let (rest, place, d') = taken_out (here refl) d in
      let (r, asks, passed, more) = front place g good h (λ y m. may.0 y (permuted_in d' y m)) in
      (r, asks, passed, in_order order (r ∷ g) (good_more t g r good passed) d' more may.1)
