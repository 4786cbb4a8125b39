-- What a set of granted requests says of persons and folders: who accessed what, which firms that opens and the wall counts, who read or
-- stepped on what, which requests a person made, which steps were done.
-- Each bounded search finds exactly the requests of the set, since a declared request has numbers within the bounds.
use Prim.Native.Nat.{ℕ, ◌<◌}
use mathlib.Core.Path.{◌≡◌, refl, sym, ap}
use mathlib.Core.Logic.{inl, inr, ⊎_elim}
use mathlib.Core.Bool.{Bool, true, not, ◌&&◌, ◌||◌}
use lib.Dec.{eqb, leb, ltb}
use borrow.Author.Tests.{ltb-true, eqb-true, eq-eqb, not-true}
use Rattle.bits.specs.Bounded.{any_below}
use Rattle.bits.proofs.Booleans.{and_left, and_right, and_both, or_cases, or_left, or_right}
use Rattle.bits.proofs.Bounds.{any_some, some_any}
use Rattle.policy.specs.declared.Tables.{Tables}
use Rattle.policy.specs.Tables.{folder_at, person_declared, folder_declared}
use Rattle.policy.specs.Request.{Request, read, write, start, step, subject, has_place}
use Rattle.policy.specs.Rules.{declared, some_request, firm_of_some, did, stepped, accessed, opened, counts, counted, observed, done}
use Rattle.policy.specs.Published.{NotPublic, Access, InHistory, Accessed, Observed, Applied}
use Rattle.policy.proofs.Requests.{person_below_lem, folder_below, declared_person, declared_step}

-- the folder of an access is declared
pub access_declared : (t : Tables) (r : Request) (s o : ℕ) → declared t r ≡ true → Access r s o → folder_declared t o ≡ true
unfolding declared
access_declared t (read s o) s' o' d a = rw (← a.1) (and_right (person_declared t s) _ d)
access_declared t (write s o) s' o' d a = rw (← a.1) (and_right (person_declared t s) _ d)
access_declared t (start s u) s' o' d a = absurd a
access_declared t (step s p o) s' o' d a = rw (← a.1) (and_right (person_declared t s && leb p 15) _ d)

-- ---- some request of a person

pub some_request_lem : (p : Request → Bool) (s : ℕ) → some_request p s ≡ true → (q : Request) × (subject q ≡ s) × (p q ≡ true)
unfolding some_request subject
some_request_lem p s e = ⊎_elim by_folder by_start (or_cases (any_below 128 on_folder) _ e)
  where
    on_folder : ℕ → Bool
    on_folder = λ o. p (read s o) || p (write s o) || any_below 16 (λ q. p (step s q o))

    by_folder : any_below 128 on_folder ≡ true → (q : Request) × (subject q ≡ s) × (p q ≡ true)
    by_folder f =
        let (o, l, w) = any_some 128 on_folder f in
        ⊎_elim
        (λ c.
        ⊎_elim (λ h. (read s o, refl, h)) (λ h. (write s o, refl, h)) (or_cases (p (read s o)) (p (write s o)) c))
        (λ c. let (n, k, h) = any_some 16 (λ q. p (step s q o)) c in (step s n o, refl, h))
        (or_cases (p (read s o) || p (write s o)) _ w)

    by_start : any_below 64 (λ u. p (start s u)) ≡ true → (q : Request) × (subject q ≡ s) × (p q ≡ true)
    by_start f = let (u, l, h) = any_some 64 (λ u. p (start s u)) f in (start s u, refl, h)

pub request_some : (p : Request → Bool) (q : Request) → has_place q ≡ true → p q ≡ true → some_request p (subject q) ≡ true
unfolding some_request subject has_place
request_some p (read s o) l h =
    or_left _ _
    (some_any 128 (λ o. p (read s o) || p (write s o) || any_below 16 (λ q. p (step s q o))) o
    (ltb-true o 128 (and_right (ltb s 64) _ l)) (or_left _ _ (or_left _ _ h)))
request_some p (write s o) l h =
    or_left _ _
    (some_any 128 (λ o. p (read s o) || p (write s o) || any_below 16 (λ q. p (step s q o))) o
    (ltb-true o 128 (and_right (ltb s 64) _ l)) (or_left _ _ (or_right (p (read s o)) _ h)))
request_some p (start s u) l h =
    or_right (any_below 128 (λ o. p (read s o) || p (write s o) || any_below 16 (λ q. p (step s q o)))) _
    (some_any 64 (λ u. p (start s u)) u (ltb-true u 64 (and_right (ltb s 64) _ l)) h)
request_some p (step s n o) l h =
    or_left _ _
    (some_any 128 (λ o. p (read s o) || p (write s o) || any_below 16 (λ q. p (step s q o))) o
    (ltb-true o 128 (and_right (ltb s 64 && ltb n 16) _ l))
    (or_right (p (read s o) || p (write s o)) _
    (some_any 16 (λ q. p (step s q o)) n (ltb-true n 16 (and_right (ltb s 64) _ (and_left (ltb s 64 && ltb n 16) _ l))) h)))

-- ---- a firm of some folder

pub firm_some : (t : Tables) (p : ℕ → Bool) (f : ℕ) → firm_of_some t p f ≡ true
    → (o : ℕ) × (o < 128) × (p o ≡ true) × (f ≡ (folder_at t o).firm)
unfolding firm_of_some
firm_some t p f e =
    let (o, l, w) = any_some 128 (λ o. p o && eqb (folder_at t o).firm f) e in
    (o, l, and_left (p o) _ w, sym (eqb-true _ _ (and_right (p o) _ w)))

pub some_firm : (t : Tables) (p : ℕ → Bool) (f o : ℕ) → o < 128 → p o ≡ true → f ≡ (folder_at t o).firm → firm_of_some t p f ≡ true
unfolding firm_of_some
some_firm t p f o l h e =
    some_any 128 (λ o. p o && eqb (folder_at t o).firm f) o l (and_both _ _ h (eq-eqb _ _ (sym e)))

module _ (t : Tables) (H : Request → Bool) where
  pub did_in : (r : Request) → did t H r ≡ true → InHistory t H r
  unfolding did
  did_in r e = (and_right (H r) _ e, and_left (H r) _ e)

  pub in_did : (r : Request) → InHistory t H r → did t H r ≡ true
  unfolding did
  in_did r h = and_both _ _ h.1 h.0

  -- ---- accesses

  pub accessed_some : (s o : ℕ) → accessed t H s o ≡ true → Accessed t H s o
  unfolding accessed stepped
  accessed_some s o e =
      ⊎_elim
      (λ c.
      ⊎_elim (λ d. (read s o, did_in (read s o) d, (refl, refl))) (λ d. (write s o, did_in (write s o) d, (refl, refl)))
      (or_cases (did t H (read s o)) (did t H (write s o)) c))
      (λ c. let (p, l, d) = any_some 16 (λ p. did t H (step s p o)) c in (step s p o, did_in (step s p o) d, (refl, refl)))
      (or_cases (did t H (read s o) || did t H (write s o)) _ e)

  access_counts : (r : Request) (s o : ℕ) → InHistory t H r → Access r s o → accessed t H s o ≡ true
  unfolding accessed stepped
  access_counts (read s o) s' o' h a = rw (← a.0, ← a.1) (or_left _ _ (or_left _ _ (in_did (read s o) h)))
  access_counts (write s o) s' o' h a =
      rw (← a.0, ← a.1) (or_left _ _ (or_right (did t H (read s o)) _ (in_did (write s o) h)))
  access_counts (start s u) s' o' h a = absurd a
  access_counts (step s p o) s' o' h a =
      rw (← a.0, ← a.1)
      (or_right (did t H (read s o) || did t H (write s o)) _
      (some_any 16 (λ q. did t H (step s q o)) p (declared_step t s p o h.0) (in_did (step s p o) h)))

  pub some_accessed : (s o : ℕ) → Accessed t H s o → accessed t H s o ≡ true
  some_accessed s o w = access_counts w.0 s o w.1 w.2

  pub accessed_below : (s o : ℕ) → Accessed t H s o → o < 128
  accessed_below s o w = folder_below t o (access_declared t w.0 s o w.1.0 w.2)

  pub opened_some : (s f : ℕ) → opened t H s f ≡ true → (o : ℕ) × Accessed t H s o × (f ≡ (folder_at t o).firm)
  unfolding opened
  opened_some s f e = let (o, l, a, i) = firm_some t (accessed t H s) f e in (o, accessed_some s o a, i)

  pub some_opened : (s f o : ℕ) → Accessed t H s o → f ≡ (folder_at t o).firm → opened t H s f ≡ true
  unfolding opened
  some_opened s f o a = some_firm t (accessed t H s) f o (accessed_below s o a) (some_accessed s o a)

  -- ---- what the wall counts

  pub counts_some : (s o : ℕ) → counts t H s o ≡ true → Accessed t H s o × NotPublic t o
  unfolding counts
  counts_some s o e =
      (accessed_some s o (and_left (accessed t H s o) _ e), not-true _ (and_right (accessed t H s o) _ e))

  pub some_counts : (s o : ℕ) → Accessed t H s o → NotPublic t o → counts t H s o ≡ true
  unfolding counts
  some_counts s o a n = and_both _ _ (some_accessed s o a) (ap not n)

  pub counted_some : (s f : ℕ) → counted t H s f ≡ true → (o : ℕ) × Accessed t H s o × NotPublic t o × (f ≡ (folder_at t o).firm)
  unfolding counted
  counted_some s f e =
      let (o, l, c, i) = firm_some t (counts t H s) f e in
      let (a, n) = counts_some s o c in
      (o, a, n, i)

  pub some_counted : (s f o : ℕ) → Accessed t H s o → NotPublic t o → f ≡ (folder_at t o).firm → counted t H s f ≡ true
  unfolding counted
  some_counted s f o a n = some_firm t (counts t H s) f o (accessed_below s o a) (some_counts s o a n)

  -- ---- what a person observed

  pub observed_some : (s o : ℕ) → observed t H s o ≡ true → Observed t H s o
  unfolding observed stepped
  observed_some s o e =
      ⊎_elim (λ d. inl (did_in (read s o) d))
      (λ c. let (p, l, d) = any_some 16 (λ p. did t H (step s p o)) c in inr (p, did_in (step s p o) d))
      (or_cases (did t H (read s o)) _ e)

  pub some_observed : (s o : ℕ) → Observed t H s o → observed t H s o ≡ true
  unfolding observed stepped
  some_observed s o (inl h) = or_left _ _ (in_did (read s o) h)
  some_observed s o (inr (p, h)) =
      or_right (did t H (read s o)) _
      (some_any 16 (λ p. did t H (step s p o)) p (declared_step t s p o h.0) (in_did (step s p o) h))

  pub observed_below : (s o : ℕ) → Observed t H s o → o < 128
  observed_below s o (inl h) = folder_below t o (access_declared t (read s o) s o h.0 (refl, refl))
  observed_below s o (inr (p, h)) = folder_below t o (access_declared t (step s p o) s o h.0 (refl, refl))

  -- ---- steps

  pub done_applied : (o p : ℕ) → done t H o p ≡ true → Applied t H p o
  unfolding done
  done_applied o p e = let (s, l, d) = any_some 64 (λ s. did t H (step s p o)) e in (s, did_in (step s p o) d)

  pub applied_done : (o p : ℕ) → Applied t H p o → done t H o p ≡ true
  unfolding done
  applied_done o p w =
      some_any 64 (λ s. did t H (step s p o)) w.0 (person_below_lem t w.0 (declared_person t w.0 p o w.1.0))
      (in_did (step w.0 p o) w.1)

  pub applied_below_lem : (o p : ℕ) → Applied t H p o → p < 16
  applied_below_lem o p w = declared_step t w.0 p o w.1.0
