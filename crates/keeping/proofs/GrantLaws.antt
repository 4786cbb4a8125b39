-- A granted request of any kind changes what is kept as it changes what the set gives: the firm of an access to a folder that is not
-- public, the right, and a step with those that may be next after it; and a read or a step lowers its person's level. A refused one
-- changes nothing.
use Prim.Native.Nat.{ℕ, zero, suc, ◌%◌, ◌<◌}
use native.Mathlib.Nat.{mod-eq_of_lt}
use native.Mathlib.Omega.{arith}
use mathlib.Core.Path.{◌≡◌, refl, sym, ap, ◌∙◌, fun_ext}
use mathlib.Core.Bool.{Bool, true, false, cond, not, ◌&&◌, ◌||◌}
use mathlib.Core.List.{List}
use lib.Dec.{eqb}
use lib.ListN.{get_or, set}
use borrow.Author.Tests.{eq-eqb}
use Rattle.bits.specs.Bits.{with_bit, mask_below}
use Rattle.bits.specs.Bounded.{any_below}
use Rattle.bits.proofs.Masks.{mask_ext, mask_with, mask_lt}
use Rattle.policy.specs.declared.Tables.{Tables}
use Rattle.policy.specs.Tables.{folder_at, enables, person_declared, folder_declared, is_public, in_force, wall_rule, pipeline_rule}
use Rattle.policy.specs.Rulebook.{given}
use Rattle.policy.specs.Request.{Request, read, write, start, step, subject}
use Rattle.policy.specs.Rules.{declared, counted, done, leads_to, pipeline_step}
use Rattle.policy.specs.OneMore.{with_request, access_of, folder_of, step_on, step_of}
use Rattle.policy.proofs.OneMore.{one_more}
use Rattle.pipeline.specs.Steps.{pipeline_in}
use Rattle.pipeline.proofs.StepLaws.{pipeline_in_lem}
use Rattle.rules.specs.Kept.{may_be_next, HasFirms, HasDone, HasNext}
use Rattle.branchfree.specs.Kinds.{is_access, is_step}
use Rattle.keeping.proofs.KeptLaws.{sets_same, sets_stored}

-- ---- kinds

access_of_lem : (r : Request) (j : ℕ) → access_of r j ≡ is_access r && eqb (subject r) j
unfolding access_of is_access subject
access_of_lem (read s o) j = refl
access_of_lem (write s o) j = refl
access_of_lem (start s u) j = refl
access_of_lem (step s p o) j = refl

step_on_lem : (r : Request) (o : ℕ) → step_on r o ≡ is_step r && eqb (folder_of r) o
unfolding step_on is_step folder_of
step_on_lem (read s o) j = refl
step_on_lem (write s o) j = refl
step_on_lem (start s u) j = refl
step_on_lem (step s p o) j = refl

no_and : (a b : Bool) → a && false ≡ false
no_and true b = refl
no_and false b = refl

swap : (a b c : Bool) → (a && true) && b ≡ b && a
swap true true c = refl
swap true false c = refl
swap false true c = refl
swap false false c = refl

module _ (t : Tables) (H : Request → Bool) (ok : given t ≡ true) (r : Request) (d : declared t r ≡ true) where
  -- ---- firms

  -- the firms that the wall counts, after the request
  pub firms_more : (made counts : Bool) (firms : List ℕ) (firm : ℕ) → made ≡ in_force t wall_rule → subject r < 64
      → person_declared t (subject r) ≡ true → counts ≡ not (is_public t (folder_of r)) && is_access r
      → (is_access r ≡ true → (firm ≡ (folder_at t (folder_of r)).firm) × (firm < 64)) → HasFirms t H firms
      → HasFirms t (with_request H r)
      (cond made
      (set firms (subject r) (cond counts (with_bit (get_or firms (subject r) 0) (firm % 64)) (get_or firms (subject r) 0)))
      firms)
  firms_more made counts firms firm same within known is entry has =
      sets_stored made firms (subject r) _ same within
      (λ force k.
      rw (has.at force (subject r) known)
      (at (is_access r) refl))
      (λ force j f other.
      one_more.counts t H r j f d
      ∙ ap (λ (b : Bool). (b && not (is_public t (folder_of r))) && eqb (folder_at t (folder_of r)).firm f || counted t H j f)
      (access_of_lem r j ∙ ap (λ (b : Bool). is_access r && b) other ∙ no_and (is_access r) true))
      has
    where
      old : ℕ
      old = mask_below 64 (counted t H (subject r))

      own : (f : ℕ)
          → counted t (with_request H r) (subject r) f
          ≡ (counts && eqb (folder_at t (folder_of r)).firm f) || counted t H (subject r) f
      own f =
          one_more.counts t H r (subject r) f d
          ∙ ap (λ (b : Bool). b && eqb (folder_at t (folder_of r)).firm f || counted t H (subject r) f)
          (ap (λ (b : Bool). b && not (is_public t (folder_of r)))
          (access_of_lem r (subject r) ∙ ap (λ (b : Bool). is_access r && b) (eq-eqb (subject r) (subject r) refl))
          ∙ swap (is_access r) (not (is_public t (folder_of r))) true ∙ sym is)

      at : (b : Bool) → b ≡ is_access r
          → cond counts (with_bit (mask_below 64 (counted t H (subject r))) (firm % 64)) (mask_below 64 (counted t H (subject r)))
          ≡ mask_below 64 (counted t (with_request H r) (subject r))
      at true e =
          let (named, small) = entry (sym e) in
          ap (λ (f : ℕ).
          cond counts (with_bit (mask_below 64 (counted t H (subject r))) f) (mask_below 64 (counted t H (subject r))))
          (mod-eq_of_lt small)
          ∙ mask_with 64 (counted t H (subject r)) firm counts small
          ∙ mask_ext 64 _ _ (λ f l.
          sym (own f ∙ ap (λ (x : ℕ). (counts && eqb x f) || counted t H (subject r) f) (sym named)))
      at false e =
          let none : counts ≡ false = is ∙ ap (λ (b : Bool). not (is_public t (folder_of r)) && b) (sym e) ∙ no_and (not (is_public t
          (folder_of r))) true in
          rw none
          (mask_ext 64 _ _ (λ f l. sym (own f ∙ rw none)))

  -- ---- steps

  -- a request that is no step
  pub done_same : {sets : List ℕ} → is_step r ≡ false → HasDone t H sets → HasDone t (with_request H r) sets
  done_same none has =
      sets_same _ (λ force o p. one_more.steps t H r o p d ∙ rw (step_on_lem r o, none)) has

  next_by : (K : Request → Bool) (o : ℕ) → ((p : ℕ) → done t K o p ≡ done t H o p) → (p : ℕ) → pipeline_step t K p o ≡ pipeline_step t H p o
  unfolding pipeline_step leads_to
  next_by K o e zero = ap (λ (D : ℕ → Bool). not (any_below 16 D)) (fun_ext e)
  next_by K o e (suc q) =
      ap (λ (D : ℕ → Bool). any_below 16 (λ p. D p && enables t p (suc q) && not (any_below 16 (λ x. D x && enables t p x)))) (fun_ext e)

  pub next_same : {sets : List ℕ} → is_step r ≡ false → HasNext t H sets → HasNext t (with_request H r) sets
  unfolding may_be_next
  next_same none has =
      sets_same _ (λ force o p. next_by (with_request H r) o (λ q. one_more.steps t H r o q d ∙ rw (step_on_lem r o, none)) p) has

  -- a step
  module _ (taken : is_step r ≡ true) (within : folder_of r < 128) (small : step_of r < 16) (known : folder_declared t (folder_of r) ≡ true)
    where
      own_step : (p : ℕ) → done t (with_request H r) (folder_of r) p ≡ (true && eqb (step_of r) p) || done t H (folder_of r) p
      own_step p =
          one_more.steps t H r (folder_of r) p d
          ∙ rw (step_on_lem r (folder_of r), taken, eq-eqb (folder_of r) (folder_of r) refl)

      other_step : (o p : ℕ) → eqb (folder_of r) o ≡ false → done t (with_request H r) o p ≡ done t H o p
      other_step o p other = one_more.steps t H r o p d ∙ rw (step_on_lem r o, taken, other)

      done_set : (before : ℕ) → before ≡ mask_below 16 (done t H (folder_of r))
          → with_bit before (step_of r % 64) ≡ mask_below 16 (done t (with_request H r) (folder_of r))
      done_set before e =
          rw e
          (ap (with_bit (mask_below 16 (done t H (folder_of r)))) (let z : step_of r % 64 ≡ step_of r = omega arith in z)
          ∙ mask_with 16 (done t H (folder_of r)) (step_of r) true small
          ∙ mask_ext 16 _ _ (λ p l. sym (own_step p)))

      pub done_more : (made : Bool) (sets : List ℕ) → made ≡ in_force t pipeline_rule → HasDone t H sets
          → HasDone t (with_request H r) (cond made (set sets (folder_of r) (with_bit (get_or sets (folder_of r) 0) (step_of r % 64))) sets)
      done_more made sets same has =
          sets_stored made sets (folder_of r) _ same within (λ force k. done_set _ (has.at force (folder_of r) known))
          (λ force o p other. other_step o p other) has

      pub next_more : (made : Bool) (sets nexts steps : List ℕ) → made ≡ in_force t pipeline_rule → steps ≡ t.steps → HasDone t H sets
          → HasNext t H nexts
          → HasNext t (with_request H r)
          (cond made
          (set nexts (folder_of r) (mask_below 16 (pipeline_in steps (with_bit (get_or sets (folder_of r) 0) (step_of r % 64) % 65536)))) nexts)
      unfolding may_be_next
      next_more made sets nexts steps same enabling has next =
          sets_stored made nexts (folder_of r) _ same within
          (λ force k.
          let now = done_set _ (has.at force (folder_of r) known) in
          let fits : with_bit (get_or sets (folder_of r) 0) (step_of r % 64) % 65536 ≡ mask_below 16 (done t (with_request H r) (folder_of r)) =
          rw now (mod-eq_of_lt (mask_lt 16 (done t (with_request H r) (folder_of r)))) in
          mask_ext 16 _ _ (λ p l. pipeline_in_lem t (with_request H r) (folder_of r) steps _ p enabling fits l))
          (λ force o p other. next_by (with_request H r) o (λ q. other_step o q other) p) next
