-- A request more in the set: each bounded search of the rules finds what it found before, and beside it at most the new request, which it
-- finds since a declared request has numbers within the bounds.
use Prim.Native.Nat.{ℕ, ◌<◌}
use mathlib.Core.Path.{◌≡◌, refl, sym, ap, ap₂, ◌∙◌, subst}
use mathlib.Core.Logic.{◌⊎◌, inl, inr, ⊎_elim}
use mathlib.Core.Bool.{Bool, true, not, ◌&&◌, ◌||◌, false≢true}
use lib.Dec.{eqb}
use borrow.Author.Tests.{eqb-true, eq-eqb}
use Rattle.bits.proofs.Booleans.{and_left, and_right, and_both, or_cases, or_left, or_right, bool_ext}
use Rattle.policy.specs.declared.Tables.{Tables}
use Rattle.policy.specs.Tables.{folder_at, is_public}
use Rattle.policy.specs.Request.{Request, read, write, start, step, subject, same}
use Rattle.policy.specs.Rules.{declared, right, firm_of_some, did, accessed, opened, counts, counted, used, done}
use Rattle.policy.specs.Published.{Access, InHistory}
use Rattle.policy.specs.OneMore.{with_request, access_of, folder_of, step_on, step_of, OneMore}
use Rattle.policy.proofs.Requests.{same_eq, same_refl, declared_place, folder_below}
use Rattle.policy.proofs.Accesses.{
  some_request_lem,
  request_some,
  did_in,
  in_did,
  access_declared,
  firm_some,
  some_firm,
  accessed_some,
  some_accessed,
  done_applied,
  applied_done,
}

-- ---- the request that was added, or one from before

module _ (t : Tables) (H : Request → Bool) (r : Request) where
  either : (q : Request) → InHistory t (with_request H r) q → (q ≡ r) ⊎ InHistory t H q
  unfolding with_request
  either q h = ⊎_elim (λ e. inl (sym (same_eq r q e))) (λ m. inr (h.0, m)) (or_cases (same r q) _ h.1)

  before : (q : Request) → InHistory t H q → InHistory t (with_request H r) q
  unfolding with_request
  before q h = (h.0, or_right (same r q) _ h.1)

  new : declared t r ≡ true → InHistory t (with_request H r) r
  unfolding with_request
  new d = (d, or_left _ _ (same_refl r))

  -- ---- rights

  used_more : (s x : ℕ) → declared t r ≡ true
      → used t (with_request H r) s x ≡ eqb (subject r) s && eqb (right t r) x || used t H s x
  unfolding used
  used_more s x d = bool_ext _ _ there back
    where
      uses : (Request → Bool) → Request → Bool
      uses K = λ q. did t K q && eqb (right t q) x

      found : (K : Request → Bool) (q : Request) → InHistory t K q → right t q ≡ x → subject q ≡ s → used t K s x ≡ true
      found K q h e own =
          subst (λ (i : ℕ). used t K i x ≡ true) own
          (request_some (uses K) q (declared_place t q h.0) (and_both _ _ (in_did t K q h) (eq-eqb _ _ e)))

      there : used t (with_request H r) s x ≡ true → eqb (subject r) s && eqb (right t r) x || used t H s x ≡ true
      there e =
          let (q, own, w) = some_request_lem (uses (with_request H r)) s e in
          let h = did_in t (with_request H r) q (and_left (did t (with_request H r) q) _ w) in
          let of_right = eqb-true _ _ (and_right (did t (with_request H r) q) _ w) in
          ⊎_elim
          (λ (i : q ≡ r). or_left _ _ (and_both _ _ (eq-eqb _ _ (ap subject (sym i) ∙ own)) (eq-eqb _ _ (ap (right t) (sym i) ∙ of_right))))
          (λ k. or_right (eqb (subject r) s && eqb (right t r) x) _ (found H q k of_right own))
          (either q h)

      back : eqb (subject r) s && eqb (right t r) x || used t H s x ≡ true → used t (with_request H r) s x ≡ true
      back e =
          ⊎_elim
          (λ n. found (with_request H r) r (new d) (eqb-true _ _ (and_right (eqb (subject r) s) _ n)) (eqb-true _ _ (and_left _ _ n)))
          (λ u.
          let (q, own, w) = some_request_lem (uses H) s u in
          found (with_request H r) q (before q (did_in t H q (and_left (did t H q) _ w))) (eqb-true _ _ (and_right (did t H q) _ w)) own)
          (or_cases (eqb (subject r) s && eqb (right t r) x) _ e)

  -- ---- accesses

  access_is : (s o : ℕ) → Access r s o → access_of r s && eqb (folder_of r) o ≡ true
  unfolding access_of folder_of
  access_is s o a = go r a
    where
      go : (q : Request) → Access q s o → access_of q s && eqb (folder_of q) o ≡ true
      go (read s' o') a = and_both _ _ (eq-eqb _ _ a.0) (eq-eqb _ _ a.1)
      go (write s' o') a = and_both _ _ (eq-eqb _ _ a.0) (eq-eqb _ _ a.1)
      go (start s' u) a = absurd a
      go (step s' p o') a = and_both _ _ (eq-eqb _ _ a.0) (eq-eqb _ _ a.1)

  is_access_lem : (s : ℕ) → access_of r s ≡ true → Access r s (folder_of r)
  unfolding access_of folder_of
  is_access_lem s e = go r e
    where
      go : (q : Request) → access_of q s ≡ true → Access q s (folder_of q)
      go (read s' o') e = (eqb-true _ _ e, refl)
      go (write s' o') e = (eqb-true _ _ e, refl)
      go (start s' u) e = absurd (false≢true e)
      go (step s' p o') e = (eqb-true _ _ e, refl)

  accessed_more : (s o : ℕ) → declared t r ≡ true
      → accessed t (with_request H r) s o ≡ access_of r s && eqb (folder_of r) o || accessed t H s o
  accessed_more s o d =
      bool_ext _ _
      (λ e.
      let (q, h, a) = accessed_some t (with_request H r) s o e in
      ⊎_elim (λ (i : q ≡ r). or_left _ _ (access_is s o (subst (λ (p : Request). Access p s o) i a)))
      (λ k. or_right (access_of r s && eqb (folder_of r) o) _ (some_accessed t H s o (q, k, a))) (either q h))
      (λ e.
      ⊎_elim
      (λ n.
      let a = is_access_lem s (and_left (access_of r s) _ n) in
      let same_folder = eqb-true (folder_of r) o (and_right (access_of r s) _ n) in
      some_accessed t (with_request H r) s o (r, new d, subst (λ (i : ℕ). Access r s i) same_folder a))
      (λ u. let (q, h, a) = accessed_some t H s o u in some_accessed t (with_request H r) s o (q, before q h, a))
      (or_cases (access_of r s && eqb (folder_of r) o) _ e))

  folder_in : (s : ℕ) → declared t r ≡ true → access_of r s ≡ true → folder_of r < 128
  folder_in s d a = folder_below t (folder_of r) (access_declared t r s (folder_of r) d (is_access_lem s a))

  -- ---- steps

  step_is : (s o p : ℕ) → r ≡ step s p o → step_on r o && eqb (step_of r) p ≡ true
  unfolding step_on step_of
  step_is s o p e = rw e (and_both _ _ (eq-eqb o o refl) (eq-eqb p p refl))

  is_step_lem : (o p : ℕ) → step_on r o && eqb (step_of r) p ≡ true → (s : ℕ) × (r ≡ step s p o)
  unfolding step_on step_of
  is_step_lem o p e = go r e
    where
      go : (q : Request) → step_on q o && eqb (step_of q) p ≡ true → (s : ℕ) × (q ≡ step s p o)
      go (read s o') e = absurd (false≢true e)
      go (write s o') e = absurd (false≢true e)
      go (start s u) e = absurd (false≢true e)
      go (step s p' o') e =
          (s, ap₂ (λ (i j : ℕ). step s i j) (eqb-true p' p (and_right (eqb o' o) _ e)) (eqb-true o' o (and_left (eqb o' o) _ e)))

  done_more : (o p : ℕ) → declared t r ≡ true → done t (with_request H r) o p ≡ step_on r o && eqb (step_of r) p || done t H o p
  done_more o p d =
      bool_ext _ _
      (λ e.
      let (s, h) = done_applied t (with_request H r) o p e in
      ⊎_elim (λ (i : step s p o ≡ r). or_left _ _ (step_is s o p (sym i)))
      (λ k. or_right (step_on r o && eqb (step_of r) p) _ (applied_done t H o p (s, k))) (either (step s p o) h))
      (λ e.
      ⊎_elim
      (λ n.
      let (s, i) = is_step_lem o p n in
      applied_done t (with_request H r) o p (s, subst (λ (q : Request). InHistory t (with_request H r) q) i (new d)))
      (λ u. let (s, h) = done_applied t H o p u in applied_done t (with_request H r) o p (s, before (step s p o) h))
      (or_cases (step_on r o && eqb (step_of r) p) _ e))

-- ---- the firms of some folders, with one folder more

firm_more : (t : Tables) (p p' : ℕ → Bool) (add : Bool) (k f : ℕ) → (add ≡ true → k < 128)
    → ((o : ℕ) → p' o ≡ add && eqb k o || p o) → firm_of_some t p' f ≡ add && eqb (folder_at t k).firm f || firm_of_some t p f
firm_more t p p' add k f inside more =
    bool_ext _ _
    (λ e.
    let (o, l, w, of-firm) = firm_some t p' f e in
    ⊎_elim
    (λ n.
    let here = eqb-true k o (and_right add _ n) in
    or_left _ _ (and_both _ _ (and_left add _ n) (eq-eqb _ _ (ap (λ (i : ℕ). (folder_at t i).firm) here ∙ sym of-firm))))
    (λ m. or_right (add && eqb (folder_at t k).firm f) _ (some_firm t p f o l m of-firm))
    (or_cases (add && eqb k o) _ (sym (more o) ∙ w)))
    (λ e.
    ⊎_elim
    (λ n.
    let a = and_left add _ n in
    some_firm t p' f k (inside a) (more k ∙ or_left _ _ (and_both _ _ a (eq-eqb k k refl)))
    (sym (eqb-true (folder_at t k).firm f (and_right add _ n))))
    (λ m.
    let (o, l, w, of-firm) = firm_some t p f m in some_firm t p' f o l (more o ∙ or_right (add && eqb k o) _ w) of-firm)
    (or_cases (add && eqb (folder_at t k).firm f) _ e))

module _ (t : Tables) (H : Request → Bool) (r : Request) (s : ℕ) (d : declared t r ≡ true) where
  counts_more : (o : ℕ)
      → counts t (with_request H r) s o ≡ (access_of r s && not (is_public t (folder_of r))) && eqb (folder_of r) o || counts t H s o
  unfolding counts
  counts_more o =
      bool_ext _ _
      (λ e.
      let n = and_right (accessed t (with_request H r) s o) _ e in
      ⊎_elim
      (λ w.
      let here = eqb-true (folder_of r) o (and_right (access_of r s) _ w) in
      or_left _ _
      (and_both _ _ (and_both _ _ (and_left (access_of r s) _ w) (ap (λ (i : ℕ). not (is_public t i)) here ∙ n)) (eq-eqb _ _ here)))
      (λ w. or_right ((access_of r s && not (is_public t (folder_of r))) && eqb (folder_of r) o) _ (and_both _ _ w n))
      (or_cases (access_of r s && eqb (folder_of r) o) _ (sym (accessed_more t H r s o d) ∙ and_left _ _ e)))
      (λ e.
      ⊎_elim
      (λ w.
      let own = and_left (access_of r s && not (is_public t (folder_of r))) _ w in
      let same_folder = and_right (access_of r s && not (is_public t (folder_of r))) _ w in
      and_both _ _ (accessed_more t H r s o d ∙ or_left _ _ (and_both _ _ (and_left (access_of r s) _ own) same_folder))
      (ap (λ (i : ℕ). not (is_public t i)) (sym (eqb-true (folder_of r) o same_folder)) ∙ and_right (access_of r s) _ own))
      (λ w.
      and_both _ _
      (accessed_more t H r s o d ∙ or_right (access_of r s && eqb (folder_of r) o) _ (and_left (accessed t H s o) _ w))
      (and_right (accessed t H s o) _ w))
      (or_cases ((access_of r s && not (is_public t (folder_of r))) && eqb (folder_of r) o) _ e))

  opened_more : (f : ℕ)
      → opened t (with_request H r) s f ≡ access_of r s && eqb (folder_at t (folder_of r)).firm f || opened t H s f
  unfolding opened
  opened_more f =
      firm_more t (accessed t H s) (accessed t (with_request H r) s) (access_of r s) (folder_of r) f (folder_in t H r s d)
      (λ o. accessed_more t H r s o d)

  counted_more : (f : ℕ)
      → counted t (with_request H r) s f
      ≡ (access_of r s && not (is_public t (folder_of r))) && eqb (folder_at t (folder_of r)).firm f || counted t H s f
  unfolding counted
  counted_more f =
      firm_more t (counts t H s) (counts t (with_request H r) s) (access_of r s && not (is_public t (folder_of r))) (folder_of r) f
      (λ a. folder_in t H r s d (and_left (access_of r s) _ a)) counts_more

pub one_more : OneMore
one_more =
    record {
      rights = λ t H r s x d. used_more t H r s x d;
      firms = λ t H r s f d. opened_more t H r s d f;
      counts = λ t H r s f d. counted_more t H r s d f;
      steps = λ t H r o p d. done_more t H r o p d;
    }
