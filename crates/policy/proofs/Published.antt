-- Each rule grants exactly where its published form holds. A bounded search for a folder, a role or a step finds one exactly where
-- there is one, since what the set holds is declared and so within the bounds; and a level is at most a meet exactly where it is at
-- most each part.
use Prim.Native.Nat.{ℕ, zero, suc}
use native.Mathlib.Omega.{arith}
use mathlib.Core.Path.{◌≡◌, refl, sym, ap, ◌∙◌}
use mathlib.Core.Logic.{◌⊎◌, inl, inr, ⊎_elim, ◌↔◌, ◌≢◌}
use mathlib.Core.Bool.{Bool, true, not, ◌&&◌, ◌||◌}
use lib.Dec.{eqb}
use borrow.Author.Tests.{eqb-false, ne_eqb, not-true}
use Rattle.bits.specs.Bits.{bit}
use Rattle.bits.specs.Bounded.{any_below, ◌implies◌}
use Rattle.bits.proofs.Booleans.{
  and_left,
  and_right,
  and_both,
  or_cases,
  or_left,
  or_right,
  implies_elim,
  implies_intro,
  decide,
  false_elim,
  false_intro,
}
use Rattle.bits.proofs.Bounds.{any_some, some_any, all_at, all_of}
use Rattle.level.specs.Levels.{is_at_most, at_most}
use Rattle.level.proofs.LevelLaws.{at_most_refl, at_most_antisym}
use Rattle.level.proofs.Meets.{met_below}
use Rattle.policy.specs.declared.Tables.{Tables}
use Rattle.policy.specs.Tables.{person_at, folder_at, role_at, enables, role_declared, class_of, is_public}
use Rattle.policy.specs.Request.{Request, read, write, start, step, subject}
use Rattle.policy.specs.Rules.{
  right,
  some_request,
  did,
  counts,
  counted,
  other_class,
  wall_access,
  wall,
  observed,
  lowered_by,
  current_level,
  modify_outcome,
  level_outcome,
  low_water,
  role_covers,
  roles,
  done,
  leads_to,
  pipeline_step,
  pipeline,
}
use Rattle.policy.specs.Published.{
  requester,
  right_of,
  NotPublic,
  Access,
  InHistory,
  Accessed,
  IsCurrentLevel,
  WallAccess,
  Wall,
  LowWater,
  Roles,
  Applied,
  Pipeline,
}
use Rattle.policy.proofs.Requests.{role_below, declared_place}
use Rattle.policy.proofs.Accesses.{
  some_request_lem,
  request_some,
  did_in,
  in_did,
  accessed_below,
  counts_some,
  some_counts,
  counted_some,
  some_counted,
  observed_some,
  some_observed,
  observed_below,
  done_applied,
  applied_done,
  applied_below_lem,
}

-- the definitions' person and right of a request are the published ones
pub subject_is : (r : Request) → subject r ≡ requester r
unfolding subject
subject_is (read s o) = refl
subject_is (write s o) = refl
subject_is (start s u) = refl
subject_is (step s p o) = refl

pub right_is : (t : Tables) (r : Request) → right t r ≡ right_of t r
unfolding right
right_is t (read s o) = refl
right_is t (write s o) = refl
right_is t (start s u) = refl
right_is t (step s p o) = refl

module _ (t : Tables) (H : Request → Bool) where
  -- ---- the wall

  other_all : (s c : ℕ) → other_class t H s c ≡ true → (o : ℕ) → Accessed t H s o → NotPublic t o → c ≢ class_of t o
  unfolding other_class
  other_all s c e o a n q =
      let d = all_at 128 (λ o. counts t H s o implies not (eqb (class_of t o) c)) e o (accessed_below t H s o a) in
      eqb-false (class_of t o) c (not-true _ (implies_elim (counts t H s o) _ d (some_counts t H s o a n))) (sym q)

  all_other : (s c : ℕ) → ((o : ℕ) → Accessed t H s o → NotPublic t o → c ≢ class_of t o) → other_class t H s c ≡ true
  unfolding other_class
  all_other s c h =
      all_of 128 (λ o. counts t H s o implies not (eqb (class_of t o) c))
      (λ o l. implies_intro (counts t H s o) _ (λ k.
      let (a, n) = counts_some t H s o k in ap not (ne_eqb (class_of t o) c (λ q. h o a n (sym q)))))

  -- the part of the wall that looks at the folders that count
  by_counted : (s o : ℕ) → (counted t H s (folder_at t o).firm || other_class t H s (class_of t o) ≡ true) ↔ WallAccess t H s o
  unfolding class_of
  by_counted s o = (
    λ e.
        ⊎_elim (λ l. inl (counted_some t H s (folder_at t o).firm l)) (λ l. inr (other_all s (class_of t o) l))
        (or_cases (counted t H s (folder_at t o).firm) _ e),
    λ w.
        ⊎_elim (λ l. or_left _ _ (some_counted t H s (folder_at t o).firm l.0 l.1 l.2 l.3))
        (λ l. or_right (counted t H s (folder_at t o).firm) _ (all_other s (class_of t o) l)) w,
  )

  wall_access_lem : (s o : ℕ) → (wall_access t H s o ≡ true) ↔ (NotPublic t o → WallAccess t H s o)
  unfolding wall_access
  wall_access_lem s o = (
    λ e n.
        ⊎_elim (λ l. absurd (false_elim (is_public t o) n l)) (λ l. (by_counted s o).0 l)
        (or_cases (is_public t o) (counted t H s (folder_at t o).firm || other_class t H s (class_of t o)) e),
    λ w.
        ⊎_elim (λ l. or_left _ _ l) (λ n. or_right (is_public t o) _ ((by_counted s o).1 (w n))) (decide (is_public t o)),
  )

  -- the wall, at the person and folder of an access
  wall_at : (r : Request) (s o : ℕ) → Access r s o → wall t H r ≡ wall_access t H s o
  unfolding wall
  wall_at (read s o) s' o' a = rw (a.0, a.1)
  wall_at (write s o) s' o' a = rw (a.0, a.1)
  wall_at (start s u) s' o' a = absurd a
  wall_at (step s p o) s' o' a = rw (a.0, a.1)

  at_wall : (r : Request) → ((s o : ℕ) → Access r s o → wall_access t H s o ≡ true) → wall t H r ≡ true
  unfolding wall
  at_wall (read s o) h = h s o (refl, refl)
  at_wall (write s o) h = h s o (refl, refl)
  at_wall (start s u) h = refl
  at_wall (step s p o) h = h s o (refl, refl)

  pub wall_published : (r : Request) → (wall t H r ≡ true) ↔ Wall t H r
  wall_published r =
      (λ e s o a. (wall_access_lem s o).0 (sym (wall_at r s o a) ∙ e), λ w. at_wall r (λ s o a. (wall_access_lem s o).1 (w s o a)))

  -- ---- low-water

  -- the current level is the meet: what is at most it is what is at most the first level and the level of every folder observed
  pub level_is_meet : (s : ℕ) → IsCurrentLevel t H s (current_level t H s)
  unfolding current_level lowered_by
  level_is_meet s c =
      let met = met_below 12 (λ o. (folder_at t o).level.0) (observed t H s) (person_at t s).level.0 128 c in (
        λ e. let below = met.0 e in (below.0, λ o w. below.1 o (observed_below t H s o w) (some_observed t H s o w)),
        λ below. met.1 (below.0, λ o l d. below.1 o (observed_some t H s o d)),
      )

  -- a person has one current level
  pub one_level : (s a b : ℕ) → IsCurrentLevel t H s a → IsCurrentLevel t H s b → a ≡ b
  one_level s a b p q =
      at_most_antisym 12 a b ((q a).1 ((p a).0 (at_most_refl 12 a))) ((p b).1 ((q b).0 (at_most_refl 12 b)))

  start_levels : (s u : ℕ) → (at_most 12 (current_level t H u) (current_level t H s) ≡ true) ↔ LowWater t H (start s u)
  start_levels s u = (
    λ e a b p q. rw (one_level u a _ p (level_is_meet u), one_level s b _ q (level_is_meet s)) e,
    λ w. w _ _ (level_is_meet u) (level_is_meet s),
  )

  pub low_water_published : (r : Request) → (low_water t (current_level t H) r ≡ true) ↔ LowWater t H r
  unfolding low_water level_outcome modify_outcome is_at_most at_most
  low_water_published (read s o) = (λ e. tt, λ w. refl)
  low_water_published (write s o) = level_is_meet s (folder_at t o).level.0
  low_water_published (start s u) = start_levels s u
  low_water_published (step s p o) = level_is_meet s (folder_at t o).level.0

  -- ---- roles

  outside : ℕ → Request → Bool
  outside k q = did t H q && not (bit (role_at t k).rights (right t q))

  covers_all : (r : Request) (k : ℕ) → role_covers t H r k ≡ true → (q : Request)
      → (q ≡ r) ⊎ (InHistory t H q × (subject q ≡ subject r)) → bit (role_at t k).rights (right t q) ≡ true
  unfolding role_covers outside
  covers_all r k e q (inl i) = rw i (and_left (bit (role_at t k).rights (right t r)) _ e)
  covers_all r k e q (inr w) =
      let none = not-true _ (and_right (bit (role_at t k).rights (right t r)) _ e) in
      ⊎_elim (λ b. b)
      (λ b.
      let found = request_some (outside k) q (declared_place t q w.0.0) (and_both _ _ (in_did t H q w.0) (ap not b)) in
      absurd (false_elim (some_request (outside k) (subject r)) none (rw w.1 at found)))
      (decide (bit (role_at t k).rights (right t q)))

  all_covers : (r : Request) (k : ℕ)
      → ((q : Request) → (q ≡ r) ⊎ (InHistory t H q × (subject q ≡ subject r)) → bit (role_at t k).rights (right t q) ≡ true)
      → role_covers t H r k ≡ true
  unfolding role_covers outside
  all_covers r k h =
      and_both _ _ (h r (inl refl))
      (ap not
      (false_intro (some_request (outside k) (subject r)) (λ e.
      let (q, s, w) = some_request_lem (outside k) (subject r) e in
      let i = did_in t H q (and_left (did t H q) _ w) in
      false_elim (bit (role_at t k).rights (right t q)) (not-true _ (and_right (did t H q) _ w)) (h q (inr (i, s))))))

  -- a request of the same person, by the definitions or as published
  alike : (q r : Request) → (q ≡ r) ⊎ (InHistory t H q × (requester q ≡ requester r))
      → (q ≡ r) ⊎ (InHistory t H q × (subject q ≡ subject r))
  alike q r (inl e) = inl e
  alike q r (inr w) = inr (w.0, subject_is q ∙ w.1 ∙ sym (subject_is r))

  alike_back : (q r : Request) → (q ≡ r) ⊎ (InHistory t H q × (subject q ≡ subject r))
      → (q ≡ r) ⊎ (InHistory t H q × (requester q ≡ requester r))
  alike_back q r (inl e) = inl e
  alike_back q r (inr w) = inr (w.0, sym (subject_is q) ∙ w.1 ∙ subject_is r)

  pub roles_published : (r : Request) → (roles t H r ≡ true) ↔ Roles t H r
  unfolding roles
  roles_published r = (
    λ e.
        let (k, l, w) = any_some 32 (λ k. role_declared t k && role_covers t H r k) e in
        let all = covers_all r k (and_right (role_declared t k) _ w) in
        (k, and_left (role_declared t k) _ w, λ q h. rw right_is at (all q (alike q r h))),
    λ w.
        some_any 32 (λ k. role_declared t k && role_covers t H r k) w.0 (role_below t w.0 w.1)
        (and_both _ _ w.1 (all_covers r w.0 (λ q h. rw right_is (w.2 q (alike_back q r h))))),
  )

  -- ---- the pipeline

  enabled_done : ℕ → ℕ → ℕ → Bool
  enabled_done o p d = done t H o d && enables t p d

  leads_some : (o q : ℕ) → any_below 16 (leads_to t H o q) ≡ true
      → (p : ℕ) × Applied t H p o × (enables t p q ≡ true) × ((d : ℕ) → Applied t H d o → enables t p d ≡ true → ⊥)
  unfolding leads_to enabled_done
  leads_some o q e =
      let (p, l, w) = any_some 16 (leads_to t H o q) e in
      let first = and_left (done t H o p && enables t p q) _ w in
      let none = not-true _ (and_right (done t H o p && enables t p q) _ w) in (
        p,
        done_applied t H o p (and_left (done t H o p) _ first),
        and_right (done t H o p) _ first,
        λ d a b.
            false_elim (any_below 16 (enabled_done o p)) none
            (some_any 16 (enabled_done o p) d (applied_below_lem t H o d a) (and_both _ _ (applied_done t H o d a) b)),
      )

  some_leads : (o q p : ℕ) → Applied t H p o → enables t p q ≡ true
      → ((d : ℕ) → Applied t H d o → enables t p d ≡ true → ⊥) → any_below 16 (leads_to t H o q) ≡ true
  unfolding leads_to enabled_done
  some_leads o q p a b none =
      some_any 16 (leads_to t H o q) p (applied_below_lem t H o p a)
      (and_both (done t H o p && enables t p q) _ (and_both _ _ (applied_done t H o p a) b)
      (ap not
      (false_intro (any_below 16 (enabled_done o p)) (λ e.
      let (d, l, w) = any_some 16 (enabled_done o p) e in
      none d (done_applied t H o d (and_left (done t H o d) _ w)) (and_right (done t H o d) _ w)))))

  pub pipeline_published : (r : Request) → (pipeline t H r ≡ true) ↔ Pipeline t H r
  unfolding pipeline pipeline_step
  pipeline_published (read s o) = (λ e. tt, λ w. refl)
  pipeline_published (write s o) = (λ e. tt, λ w. refl)
  pipeline_published (start s u) = (λ e. tt, λ w. refl)
  pipeline_published (step s zero o) = (
    λ e.
        inl (
          refl,
          λ p a.
              false_elim (any_below 16 (done t H o)) (not-true _ e)
              (some_any 16 (done t H o) p (applied_below_lem t H o p a) (applied_done t H o p a)),
        ),
    λ w.
        ⊎_elim
        (λ c.
        ap not
        (false_intro (any_below 16 (done t H o)) (λ e.
        let (p, l, d) = any_some 16 (done t H o) e in c.1 p (done_applied t H o p d))))
        (λ c. absurd (c.0 refl)) w,
  )
  pipeline_published (step s (suc q) o) = (
    λ e. inr (λ (z : suc q ≡ 0). let x : ⊥ = omega arith in x, leads_some o (suc q) e),
    λ w.
        ⊎_elim (λ c. let (z, n) = c in let x : ⊥ = omega arith in absurd x)
        (λ c. let (z, p) = c in some_leads o (suc q) p.0 p.1 p.2 p.3) w,
  )
