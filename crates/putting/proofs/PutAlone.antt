-- A put alone. A granted request has declared parties, so its numbers are in range; it is recorded by its kind, and its person's level is
-- lowered where it is a read or a step. A refused one leaves both buffers.
use Prim.Native.Nat.{ℕ, ◌%◌, ◌<◌}
use native.Mathlib.Omega.{arith}
use mathlib.Core.Path.{◌≡◌, refl, sym, ap₂, ◌∙◌, subst}
use mathlib.Core.Logic.{◌≢◌}
use mathlib.Core.Bool.{Bool, true, false, cond, ◌&&◌}
use mathlib.Core.List.{List}
use mathlib.Core.Option.{Option, none, some, none-ne-some, some-injective}
use lib.Dec.{eqb, ltb}
use borrow.Author.Tests.{ltb-true, ne_eqb}
use Rattle.bits.proofs.Booleans.{and_left, and_right}
use Rattle.policy.specs.declared.Tables.{Tables}
use Rattle.policy.specs.Checks.{ladder}
use Rattle.policy.specs.Tables.{folder_at}
use Rattle.policy.specs.Request.{Request, read, write, start, step, has_place, set_of, recorded}
use Rattle.policy.specs.Levels.{level_at, met_with, lowered}
use Rattle.policy.specs.Calls.{state, recorded_if, request_checks}
use Rattle.policy.proofs.Requests.{declared_place}
use Rattle.policy.proofs.Granted.{checks_passed}
use Rattle.request.specs.declared.Parsed.{Parsed}
use Rattle.request.specs.Parsed.{access_by, as_request}
use Rattle.request.proofs.KindLaws.{kind_none}
use Rattle.questions.specs.Judging.{number_for}
use Rattle.putting.specs.Running.{Fits, Recorded, lowered_to}

-- ---- numbers in range

module _ (r : Parsed) (fits : Fits r) where
  pub access_fits : (writes : Bool) (s o : ℕ) → as_request r ≡ some (access_by writes s o) → (s < 64) × (o < 128)
  unfolding access_by has_place
  access_fits true s o e =
      let place = fits (write s o) e in (ltb-true s 64 (and_left (ltb s 64) _ place), ltb-true o 128 (and_right (ltb s 64) _ place))
  access_fits false s o e =
      let place = fits (read s o) e in (ltb-true s 64 (and_left (ltb s 64) _ place), ltb-true o 128 (and_right (ltb s 64) _ place))

  pub start_fits : (s u : ℕ) → as_request r ≡ some (start s u) → (s < 64) × (u < 64)
  unfolding has_place
  start_fits s u e =
      let place = fits (start s u) e in (ltb-true s 64 (and_left (ltb s 64) _ place), ltb-true u 64 (and_right (ltb s 64) _ place))

  pub step_fits : (s p o : ℕ) → as_request r ≡ some (step s p o) → (s < 64) × (p < 16) × (o < 128)
  unfolding has_place
  step_fits s p o e =
      let place = fits (step s p o) e in
      let two = and_left (ltb s 64 && ltb p 16) _ place in (
        ltb-true s 64 (and_left (ltb s 64) _ two),
        ltb-true p 16 (and_right (ltb s 64) _ two),
        ltb-true o 128 (and_right (ltb s 64 && ltb p 16) _ place),
      )

-- ---- what a recorded request leaves

module _ {h l : List ℕ} {r : Parsed} {level : ℕ} {h' l' : List ℕ} where
  -- the request that was recorded is the one that was parsed
  recorded_by : (q : Request) → as_request r ≡ some q
      → ((t : Tables) → level ≡ (folder_at t (r.target % 128)).level.0 → (h' ≡ recorded h q) × (l' ≡ lowered t l q)) → Recorded h l r
      level h' l'
  recorded_by q e leaves =
      record { one = λ t q' e' is. subst (λ (x : Request). (h' ≡ recorded h x) × (l' ≡ lowered t l x)) (same q' e') (leaves t is) }
    where
      same : (q' : Request) → as_request r ≡ some q' → q ≡ q'
      same q' e' = some-injective q q' (sym e ∙ e')

  pub access_recorded : (writes : Bool) (s o : ℕ) → as_request r ≡ some (access_by writes s o) → o ≡ r.target → o < 128
      → h' ≡ recorded h (access_by writes s o) → l' ≡ cond writes l (lowered_to l s level) → Recorded h l r level h' l'
  unfolding access_by lowered met_with lowered_to
  access_recorded true s o e target below history levels = recorded_by (write s o) e (λ t is. (history, levels))
  access_recorded false s o e target below history levels =
      let own : r.target % 128 ≡ o = omega (arith, target) in recorded_by (read s o) e (λ t is. (history, levels ∙ rw (is, own)))

  pub step_recorded : (s p o : ℕ) → as_request r ≡ some (step s p o) → o ≡ r.target → o < 128 → h' ≡ recorded h (step s p o)
      → l' ≡ lowered_to l s level → Recorded h l r level h' l'
  unfolding lowered met_with lowered_to
  step_recorded s p o e target below history levels =
      let own : r.target % 128 ≡ o = omega (arith, target) in recorded_by (step s p o) e (λ t is. (history, levels ∙ rw (is, own)))

  pub start_recorded : (s u : ℕ) → as_request r ≡ some (start s u) → h' ≡ recorded h (start s u) → l' ≡ l → Recorded h l r level h' l'
  unfolding lowered
  start_recorded s u e history levels = recorded_by (start s u) e (λ t is. (history, levels))

  -- a kind of no request
  pub other_recorded : r.kind ≢ 16 → r.kind ≢ 17 → r.kind ≢ 18 → r.kind ≢ 19 → Recorded h l r level h' l'
  other_recorded a b c d = record { one = λ t q e' is. absurd (none-ne-some q (sym (kind_none r a b c d) ∙ e')) }

-- ---- a put

-- bytes that hold no request are not granted
cut_refused : (t : Tables) (H : Request → Bool) (levels : ℕ → ℕ) → 0 ≡ number_for t H levels none → ⊥
unfolding number_for request_checks ladder
cut_refused t H levels z = omega arith

module _ (t : Tables) (h l : List ℕ) (r : Parsed) {n : ℕ} (number : n ≡ number_for t (set_of h) (level_at l) (as_request r)) where
  -- a granted request has its place
  pub granted_fits : n ≡ 0 → Fits r
  unfolding number_for
  granted_fits zero q e =
      let passed : ladder (request_checks t (set_of h) (level_at l) (some q)) ≡ 0 = rw e at (sym number ∙ zero) in
      declared_place t q (checks_passed t (set_of h) (level_at l) q passed).parties

  -- a refused one leaves what there was
  pub refused_leaves : n ≢ 0 → state h l ≡ recorded_if t (eqb n 0) (state h l) (as_request r)
  unfolding recorded_if
  refused_leaves other = rw (ne_eqb n 0 other)

  -- a granted one leaves what its recording leaves
  pub granted_leaves : {h' l' : List ℕ} {level : ℕ} → n ≡ 0 → level ≡ (folder_at t (r.target % 128)).level.0 → Recorded h l r level h' l'
      → state h' l' ≡ recorded_if t (eqb n 0) (state h l) (as_request r)
  unfolding recorded_if
  granted_leaves {h'} {l'} zero is leaves =
      rw zero (go (as_request r) (λ q e. leaves.one t q e is) (sym zero ∙ number))
    where
      go : (o : Option Request) → ((q : Request) → o ≡ some q → (h' ≡ recorded h q) × (l' ≡ lowered t l q))
          → 0 ≡ number_for t (set_of h) (level_at l) o → state h' l' ≡ recorded_if t true (state h l) o
      go none has z = absurd (cut_refused t (set_of h) (level_at l) z)
      go (some q) has z = let (a, b) = has q refl in ap₂ state a b
