-- The end checks on the 16 sets are those of the definitions. After the sets are closed by the steps below k, q is in the set of p exactly
-- where a way leads from p to q whose inner steps are below k: one step more of the closing is one step more of the definition. A step is
-- enabled exactly where it is in the union of the sets.
use Prim.Native.Nat.{ℕ, zero, suc, ◌%◌}
use mathlib.Core.Path.{◌≡◌, refl, sym, ap, ap₂, ◌∙◌}
use mathlib.Core.Bool.{Bool, true, false, cond, not, ◌&&◌, ◌||◌, or-false}
use mathlib.Core.List.{List, [], ◌∷◌, map}
use mathlib.Core.Bool
use lib.Bits.{bit_or}
use lib.Dec.{eqb}
use lib.ListN.{length, get_or, get_or-map, length-map}
use Rattle.std.specs.List.{list_any, enumerate_from}
use Rattle.bits.specs.Bits.{bit}
use Rattle.bits.specs.Bounded.{any_below, fold_below}
use Rattle.bits.proofs.Bounds.{any_ext}
use Rattle.bits.proofs.BitLaws.{bit_or_lem, bit_zero}
use Rattle.policy.specs.declared.Tables.{Tables}
use Rattle.policy.specs.Tables.{enabled_by, enables}
use Rattle.policy.specs.Checks.{◌else◌, ladder}
use Rattle.policy.specs.Rulebook.{reaches, has_circle, is_loose, has_loose, end_checks}
use Rattle.rulebook.specs.Steps.{joined, through, closed, on_itself, circle_in, enabled_below, loose_among, loose_in}
use Rattle.rulebook.proofs.ListLaws.{any_places, within}

-- ---- circles

bit_joined : (k row set q : ℕ) → bit (joined k row set) q ≡ bit set q || (bit set k && bit row q)
unfolding joined
bit_joined k row set q = by (bit set k) refl
  where
    by : (b : Bool) → bit set k ≡ b → bit (cond (bit set k) (bit_or set row) set) q ≡ bit set q || (bit set k && bit row q)
    by true e = rw e (bit_or_lem set row q)
    by false e = rw e (sym (or-false (bit set q)))

-- the empty set stays empty, so a number past the last step has no ways
joined_empty : (k row : ℕ) → joined k row 0 ≡ 0
unfolding joined
joined_empty k row = rw (bit_zero k)

bit_through : (k : ℕ) (sets : List ℕ) (p q : ℕ)
    → bit (get_or (through k sets) p 0) q ≡ bit (get_or sets p 0) q || (bit (get_or sets p 0) k && bit (get_or sets k 0) q)
unfolding through
bit_through k sets p q =
    let row = get_or sets k 0 in
    ap (λ (x : ℕ). bit x q)
    (ap (get_or (map (joined k row) sets) p) (sym (joined_empty k row)) ∙ get_or-map (joined k row) sets p 0)
    ∙ bit_joined k row (get_or sets p 0) q

pub bit_closed : (t : Tables) (k p q : ℕ) → bit (get_or (closed k t.steps) p 0) q ≡ reaches t k p q
unfolding closed reaches enables
bit_closed t zero p q = refl
bit_closed t (suc k) p q =
    bit_through k (closed k t.steps) p q
    ∙ ap₂ ◌||◌ (bit_closed t k p q) (ap₂ ◌&&◌ (bit_closed t k p k) (bit_closed t k k q))

pub circle_is : (t : Tables) → circle_in t.steps ≡ has_circle t
unfolding circle_in has_circle on_itself
circle_is t =
    any_ext 16 (on_itself (closed 16 t.steps)) (λ p. reaches t 16 p p) (λ p l. bit_closed t 16 p p)

through_length : (k : ℕ) (sets : List ℕ) → length (through k sets) ≡ length sets
unfolding through
through_length k sets = length-map sets (joined k (get_or sets k 0))

closed_length : (k : ℕ) (sets : List ℕ) → length (closed k sets) ≡ length sets
unfolding closed
closed_length zero sets = refl
closed_length (suc k) sets = through_length k (closed k sets) ∙ closed_length k sets

-- the closed sets with their places, one after another
pub circle_listed : (sets : List ℕ) → length sets ≡ 16
    → list_any (λ x. bit x.1 (x.0 % 16)) (enumerate_from 0 (closed 16 sets)) ≡ circle_in sets
unfolding circle_in on_itself
circle_listed sets long =
    let all = closed 16 sets in
    any_places (λ p set. bit set (p % 16)) 0 all 16 (closed_length 16 sets ∙ long)
    ∙ any_ext 16 _ _ (λ p below. within (bit (get_or all p 0)) p 16 below)

-- ---- steps that enable and are not enabled

-- the sets with their places, one after another
pub loose_listed : (sets : List ℕ) → length sets ≡ 16
    → list_any (λ x. loose_among (enabled_below 16 sets) x.1 (x.0 % 16)) (enumerate_from 0 sets) ≡ loose_in sets
unfolding loose_in
loose_listed sets long =
    let union = enabled_below 16 sets in
    any_places (λ p set. loose_among union set (p % 16)) 0 sets 16 long
    ∙ any_ext 16 _ _ (λ p below. within (loose_among union (get_or sets p 0)) p 16 below)

pub bit_enabled : (sets : List ℕ) (n q : ℕ) → bit (enabled_below n sets) q ≡ any_below n (λ p. bit (get_or sets p 0) q)
unfolding enabled_below fold_below any_below
bit_enabled sets zero q = bit_zero q
bit_enabled sets (suc n) q =
    bit_or_lem (enabled_below n sets) (get_or sets n 0) q ∙ Bool.or_comm (bit (enabled_below n sets) q) (bit (get_or sets n 0) q)
    ∙ ap (λ (b : Bool). bit (get_or sets n 0) q || b) (bit_enabled sets n q)

pub loose_is : (t : Tables) → loose_in t.steps ≡ has_loose t
unfolding loose_in has_loose loose_among is_loose enables
loose_is t =
    any_ext 16 (λ p. loose_among (enabled_below 16 t.steps) (get_or t.steps p 0) p) (is_loose t)
    (λ p l.
    ap (λ (b : Bool). not (eqb p 0) && not (eqb (enabled_by t p) 0) && not b) (bit_enabled t.steps 16 p))

-- ---- the checks of the end record

pub end_is : (t : Tables) → ladder ((not (circle_in t.steps) else 8) ∷ (not (loose_in t.steps) else 9) ∷ []) ≡ ladder (end_checks t)
unfolding end_checks
end_is t = rw (circle_is t, loose_is t)
