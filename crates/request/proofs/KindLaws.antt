-- The request that a parsed record is, by its kind and by the numbers that were read from its fields.
use Prim.Native.Nat.{ℕ, ◌≤◌}
use native.Mathlib.Nat.{eq-or-lt_of_le}
use native.Mathlib.Omega.{arith}
use mathlib.Core.Path.{◌≡◌, ap, ◌∙◌}
use mathlib.Core.Logic.{◌≢◌, ◌⊎◌, ⊎_elim}
use mathlib.Core.Option.{none, some}
use lib.Dec.{eqb}
use borrow.Author.Tests.{ne_eqb}
use Rattle.policy.specs.declared.kind.Kind.{Kind}
use Rattle.policy.specs.declared.kind.Kind.TheVariants.{Read, Write}
use Rattle.policy.specs.Kinds.{kind_number}
use Rattle.policy.specs.Request.{start, step}
use Rattle.request.specs.declared.Parsed.{Parsed}
use Rattle.request.specs.Parsed.{access_by, request_for, as_request}

module _ (r : Parsed) {s o : ℕ} (person : s ≡ r.person) (target : o ≡ r.target) where
  pub kind_access : 16 ≤ r.kind → r.kind ≤ 17 → as_request r ≡ some (access_by (eqb r.kind 17) s o)
  unfolding as_request request_for access_by
  kind_access low high =
      ⊎_elim (λ e. rw (← e, person, target)) (λ above. let e : r.kind ≡ 17 = omega arith in rw (e, person, target)) (eq-or-lt_of_le low)

  pub by_access_kind : {kind : Kind} → r.kind ≡ kind_number kind → (kind ≡ Read) ⊎ (kind ≡ Write)
      → as_request r ≡ some (access_by (eqb r.kind 17) s o)
  by_access_kind is either =
      ⊎_elim (λ e. let n : r.kind ≡ 16 = is ∙ ap kind_number e in kind_access (omega arith) (omega arith))
      (λ e. let n : r.kind ≡ 17 = is ∙ ap kind_number e in kind_access (omega arith) (omega arith)) either

  pub kind_start : r.kind ≡ 18 → as_request r ≡ some (start s o)
  unfolding as_request request_for
  kind_start e = rw (e, person, target)

  pub kind_step : {p : ℕ} → p ≡ r.step → r.kind ≡ 19 → as_request r ≡ some (step s p o)
  unfolding as_request request_for
  kind_step own e = rw (e, person, target, own)

pub kind_none : (r : Parsed) → r.kind ≢ 16 → r.kind ≢ 17 → r.kind ≢ 18 → r.kind ≢ 19 → as_request r ≡ none
unfolding as_request request_for
kind_none r a b c d = rw (ne_eqb r.kind 16 a, ne_eqb r.kind 17 b, ne_eqb r.kind 18 c, ne_eqb r.kind 19 d)
