-- A request is granted exactly where it is whole and every check of it passes: each step of the ladder leads on only where its check
-- permits. A put then adds the request to the granted ones, and changes nothing otherwise.
use Prim.Native.Nat.{ℕ}
use native.Mathlib.Omega.{arith}
use mathlib.Core.Path.{◌≡◌, refl, ap, ◌∙◌}
use mathlib.Core.Logic.{◌≢◌}
use mathlib.Core.Bool.{Bool, true, false, cond, false≢true}
use mathlib.Core.List.{List, [], ◌∷◌}
use mathlib.Core.Option.{Option, none, some}
use lib.Dec.{eqb}
use borrow.Author.Tests.{eqb-true, eqb-false, ne_eqb}
use Rattle.bits.specs.Bounded.{◌implies◌}
use Rattle.policy.specs.declared.Tables.{Tables}
use Rattle.policy.specs.Checks.{ladder}
use Rattle.policy.specs.Tables.{in_force, wall_rule, low_water_rule, roles_rule, pipeline_rule}
use Rattle.policy.specs.Request.{Request, request_of, member}
use Rattle.policy.specs.Rules.{declared, wall, level_outcome, low_water, current_level, roles, pipeline}
use Rattle.policy.specs.Calls.{request_checks, judge_with, judge_over, added_if, judge_list}
use Rattle.policy.proofs.OutcomeNumbers.{refusal_number}

-- every check of a request passes
pub record Passed (t : Tables) (H : Request → Bool) (levels : ℕ → ℕ) (r : Request) : Type 0 where
  pub parties : declared t r ≡ true
  pub walled : (in_force t wall_rule implies wall t H r) ≡ true
  pub levelled : (in_force t low_water_rule implies low_water t levels r) ≡ true
  pub covered : (in_force t roles_rule implies roles t H r) ≡ true
  pub piped : (in_force t pipeline_rule implies pipeline t H r) ≡ true

-- with the levels that the set gives
abbrev pub PassedOver : Tables → (Request → Bool) → Request → Type 0
PassedOver t H r = Passed t H (current_level t H) r

-- a test whose refusal has a number other than 0
cond_zero : (c : Bool) (n m : ℕ) → (c ≡ false → n ≢ 0) → cond c m n ≡ 0 → (c ≡ true) × (m ≡ 0)
cond_zero true n m other e = (refl, e)
cond_zero false n m other e = absurd (other refl e)

zero_cond : (c : Bool) (n m : ℕ) → c ≡ true → m ≡ 0 → cond c m n ≡ 0
zero_cond true n m p e = e
zero_cond false n m p e = absurd (false≢true p)

module _ (t : Tables) (H : Request → Bool) (levels : ℕ → ℕ) where
  pub checks_passed : (r : Request) → ladder (request_checks t H levels (some r)) ≡ 0 → Passed t H levels r
  unfolding ladder request_checks low_water
  checks_passed r e =
      let a = cond_zero (declared t r) 13 _ (λ f. omega arith) e in
      let b = cond_zero (in_force t wall_rule implies wall t H r) 14 _ (λ f. omega arith) a.1 in
      let refusal = refusal_number (in_force t low_water_rule) (level_outcome t levels r) in
      let c = cond_zero (in_force t low_water_rule implies low_water t levels r) _ _ refusal b.1 in
      let d = cond_zero (in_force t roles_rule implies roles t H r) 16 _ (λ f. omega arith) c.1 in
      let f = cond_zero (in_force t pipeline_rule implies pipeline t H r) 17 _ (λ f. omega arith) d.1 in
      record { parties = a.0; walled = b.0; levelled = c.0; covered = d.0; piped = f.0 }

  pub passed_checks : (r : Request) → Passed t H levels r → ladder (request_checks t H levels (some r)) ≡ 0
  unfolding ladder request_checks
  passed_checks r p =
      zero_cond (declared t r) 13 _ p.parties
      (zero_cond (in_force t wall_rule implies wall t H r) 14 _ p.walled
      (zero_cond (in_force t low_water_rule implies low_water t levels r) _ _ p.levelled
      (zero_cond (in_force t roles_rule implies roles t H r) 16 _ p.covered
      (zero_cond (in_force t pipeline_rule implies pipeline t H r) 17 _ p.piped refl))))

  pub with_passed : (bytes : List ℕ) → judge_with t H levels bytes ≡ 0
      → (r : Request) × (request_of bytes ≡ some r) × Passed t H levels r
  unfolding judge_with ladder request_checks
  with_passed bytes e = go (request_of bytes) refl e
    where
      go : (d : Option Request) → request_of bytes ≡ d → ladder (request_checks t H levels d) ≡ 0
          → (r : Request) × (request_of bytes ≡ some r) × Passed t H levels r
      go none q z = let y : ⊥ = omega arith in absurd y
      go (some r) q z = (r, q, checks_passed r z)

  pub passed_with : (bytes : List ℕ) (r : Request) → request_of bytes ≡ some r → Passed t H levels r → judge_with t H levels bytes ≡ 0
  unfolding judge_with
  passed_with bytes r q p = ap (λ (d : Option Request). ladder (request_checks t H levels d)) q ∙ passed_checks r p

module _ (t : Tables) (H : Request → Bool) where
  pub judge_passed : (bytes : List ℕ) → judge_over t H bytes ≡ 0
      → (r : Request) × (request_of bytes ≡ some r) × PassedOver t H r
  unfolding judge_over
  judge_passed bytes e = with_passed t H (current_level t H) bytes e

  pub passed_judge : (bytes : List ℕ) (r : Request) → request_of bytes ≡ some r → PassedOver t H r → judge_over t H bytes ≡ 0
  unfolding judge_over
  passed_judge bytes r q p = passed_with t H (current_level t H) bytes r q p

-- the granted requests after one put, newest first
unfoldable pub put_over : Tables → List Request → List ℕ → List Request
put_over t g bytes = added_if (eqb (judge_over t (member g) bytes) 0) (request_of bytes) g

-- the granted requests after a list of puts, newest first
unfoldable pub granted_over : Tables → List Request → List (List ℕ) → List Request
granted_over t g [] = g
granted_over t g (bytes ∷ calls) = granted_over t (put_over t g bytes) calls

pub put_granted : (t : Tables) (g : List Request) (bytes : List ℕ) (r : Request)
    → request_of bytes ≡ some r → judge_over t (member g) bytes ≡ 0 → put_over t g bytes ≡ r ∷ g
unfolding put_over added_if
put_granted t g bytes r q e =
    ap (λ (n : ℕ). added_if (eqb n 0) (request_of bytes) g) e ∙ ap (λ (d : Option Request). added_if true d g) q

pub put_refused : (t : Tables) (g : List Request) (bytes : List ℕ) → judge_over t (member g) bytes ≢ 0 → put_over t g bytes ≡ g
unfolding put_over added_if
put_refused t g bytes n = ap (λ (b : Bool). added_if b (request_of bytes) g) (ne_eqb _ _ n)

pub granted_none : (t : Tables) (g : List Request) → granted_over t g [] ≡ g
unfolding granted_over
granted_none t g = refl

pub granted_more : (t : Tables) (g : List Request) (bytes : List ℕ) (calls : List (List ℕ))
    → granted_over t g (bytes ∷ calls) ≡ granted_over t (put_over t g bytes) calls
unfolding granted_over
granted_more t g bytes calls = refl

pub judge_more : (t : Tables) (g : List Request) (bytes : List ℕ) (calls : List (List ℕ))
    → judge_list t g (bytes ∷ calls) ≡ judge_over t (member g) bytes ∷ judge_list t (put_over t g bytes) calls
unfolding judge_list put_over
judge_more t g bytes calls = refl

-- one request after another: what holds of the granted requests, and is kept by every granted one, holds after the list
pub granted_keeps : (t : Tables) (P : List Request → Type 0)
    → ((g : List Request) (r : Request) → P g → PassedOver t (member g) r → P (r ∷ g))
    → (g : List Request) (calls : List (List ℕ)) → P g → P (granted_over t g calls)
unfolding granted_over
granted_keeps t P more g [] p = p
granted_keeps t P more g (bytes ∷ calls) p =
    granted_keeps t P more (put_over t g bytes) calls (go (eqb (judge_over t (member g) bytes) 0) refl)
  where
    go : (b : Bool) → eqb (judge_over t (member g) bytes) 0 ≡ b → P (put_over t g bytes)
    go true e =
        let z = eqb-true (judge_over t (member g) bytes) 0 e in
        let (r, q, w) = judge_passed t (member g) bytes z in
        rw (put_granted t g bytes r q z) (more g r p w)
    go false e = rw (put_refused t g bytes (eqb-false (judge_over t (member g) bytes) 0 e)) p
