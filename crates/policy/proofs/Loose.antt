-- `has_loose` is true exactly where a step other than 0 enables some step and no step enables it. It holds because every step that a pair
-- names is below 16, so that the searches below 16 find each of them.
use Prim.Native.Nat.{ℕ, ◌^◌, ◌<◌}
use mathlib.Core.Path.{◌≡◌, sym, ap, ◌∙◌}
use mathlib.Core.Logic.{◌↔◌, ◌≢◌}
use mathlib.Core.Bool.{true, not, ◌&&◌, not-not}
use lib.Dec.{eqb}
use borrow.Author.Tests.{eqb-false, ne_eqb, not-true}
use Rattle.bits.specs.Bounded.{any_below}
use Rattle.bits.proofs.Booleans.{and_left, and_right, and_both, false_intro, false_elim}
use Rattle.bits.proofs.Bounds.{any_some, some_any, none_any}
use Rattle.bits.proofs.Masks.{empty_none}
use Rattle.policy.specs.declared.Tables.{Tables}
use Rattle.policy.specs.Tables.{enabled_by, enables}
use Rattle.policy.specs.Rulebook.{is_loose, has_loose}
use Rattle.policy.specs.Ways.{Enables}

-- a step other than 0 enables some step, and no step enables it, where `Pair p q` says that p enables q
abbrev pub LooseBy : (ℕ → ℕ → Type 0) → Type 0
LooseBy Pair = (p : ℕ) × (p ≢ 0) × ((q : ℕ) × Pair p q) × ((r : ℕ) → Pair r p → ⊥)

pub loose_map : {A B : ℕ → ℕ → Type 0} → ((p q : ℕ) → A p q ↔ B p q) → LooseBy A → LooseBy B
loose_map f (p, z, (q, e), none) = (p, z, (q, (f p q).0 e), λ r h. none r ((f r p).1 h))

module _ (t : Tables) (sets : (p : ℕ) → enabled_by t p < 2 ^ 16) (small : (p q : ℕ) → enables t p q ≡ true → (p < 16) × (q < 16)) where
  some_enabled : (p : ℕ) → not (eqb (enabled_by t p) 0) ≡ any_below 16 (enables t p)
  unfolding enables
  some_enabled p = ap not (empty_none 16 (enabled_by t p) (sets p)) ∙ not-not _

  pub loose_some : has_loose t ≡ true → LooseBy (Enables t)
  unfolding has_loose is_loose
  loose_some c =
      let (p, l, h) = any_some 16 (is_loose t) c in
      let two = and_left (not (eqb p 0) && not (eqb (enabled_by t p) 0)) _ h in
      let (q, m, e) = any_some 16 (enables t p) (sym (some_enabled p) ∙ and_right (not (eqb p 0)) _ two) in
      let none = not-true _ (and_right (not (eqb p 0) && not (eqb (enabled_by t p) 0)) _ h) in (
        p,
        eqb-false p 0 (not-true _ (and_left (not (eqb p 0)) _ two)),
        (q, e),
        λ r f. false_elim _ none (some_any 16 (λ r. enables t r p) r (small r p f).0 f),
      )

  pub some_loose : LooseBy (Enables t) → has_loose t ≡ true
  unfolding has_loose is_loose
  some_loose (p, z, (q, e), none) =
      some_any 16 (is_loose t) p (small p q e).0
      (and_both _ _ (and_both _ _ (ap not (ne_eqb p 0 z)) (some_enabled p ∙ some_any 16 (enables t p) q (small p q e).1 e))
      (ap not (none_any 16 (λ r. enables t r p) (λ r l. false_intro _ (none r)))))
