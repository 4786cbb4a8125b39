-- With one request more in the set, what is kept of its person and of its folder changes as what the set gives does (policy, OneMore): a
-- firm more, fewer roles that hold all rights, a step more; and every other place stays as it was.
use Prim.Native.Nat.{ℕ, ◌%◌, ◌^◌, ◌<◌}
use native.Mathlib.Nat.{mod-eq_of_lt, lt_of_le_of_lt}
use native.Mathlib.Omega.{arith}
use mathlib.Core.Path.{◌≡◌, refl, sym, ap, ap₂, ◌∙◌}
use mathlib.Core.Logic.{⊎_elim}
use mathlib.Core.Bool.{Bool, true, false, cond, not, ◌&&◌}
use mathlib.Core.List.{List}
use lib.Dec.{eqb}
use lib.Bits.{bit_and, and_le_l}
use lib.ListN.{length, get_or, set, length-set}
use lib.Seq.{get_or-set_same, get_or-set_other}
use borrow.Author.Tests.{eqb-true, eqb-false, eq-eqb}
use Rattle.bits.specs.Bits.{bit, with_bit, mask_below}
use Rattle.bits.specs.Bounded.{any_below}
use Rattle.bits.proofs.Booleans.{decide, and_left, and_right, and_both, bool_ext, or_cases, or_left, or_right}
use Rattle.bits.proofs.Bounds.{any_ext}
use Rattle.bits.proofs.BitLaws.{bit_and_lem, bit_with, subset_bit, bit_subset, with_lt}
use Rattle.bits.proofs.Masks.{mask_ext, mask_with, mask_lt, bit_mask_below, empty_none, mask_of_bits}
use Rattle.policy.specs.declared.Tables.{Tables}
use Rattle.policy.specs.Tables.{role_at, person_declared, in_force, roles_rule}
use Rattle.policy.specs.Rulebook.{given}
use Rattle.policy.specs.Request.{Request, subject}
use Rattle.policy.specs.Rules.{declared, right, used, roles}
use Rattle.policy.specs.OneMore.{with_request}
use Rattle.policy.proofs.OneMore.{one_more}
use Rattle.rules.specs.Sets.{covers}
use Rattle.rules.specs.Kept.{SetsFor, holds_all, holds_right, HasHolding}
use Rattle.rules.proofs.SetLaws.{roles_any, right_below}

-- ---- the sets at their places

module _ {n : ℕ} {on : Bool} {known : ℕ → Bool} {width : ℕ} {P : ℕ → ℕ → Bool} where
  -- sets that have the same members
  pub sets_same : {P' : ℕ → ℕ → Bool} (sets : List ℕ) → (on ≡ true → (j y : ℕ) → P' j y ≡ P j y) → SetsFor n on known width P sets
      → SetsFor n on known width P' sets
  sets_same sets e has =
      record { size = has.size; at = λ force j d. has.at force j d ∙ mask_ext width _ _ (λ y l. sym (e force j y)) }

  -- one of them stored, if the rule is in force
  pub sets_stored : {P' : ℕ → ℕ → Bool} (made : Bool) (sets : List ℕ) (i v : ℕ) → made ≡ on → i < n
      → (on ≡ true → known i ≡ true → v ≡ mask_below width (P' i)) → (on ≡ true → (j y : ℕ) → eqb i j ≡ false → P' j y ≡ P j y)
      → SetsFor n on known width P sets → SetsFor n on known width P' (cond made (set sets i v) sets)
  sets_stored {P'} made sets i v same within here others has =
      record { size = sized made; at = λ force j d. rw (same ∙ force) (⊎_elim (own force j d) (other force j d) (decide (eqb i j))) }
    where
      sized : (b : Bool) → length (cond b (set sets i v) sets) ≡ n
      sized true = length-set sets i v ∙ has.size
      sized false = has.size

      own : on ≡ true → (j : ℕ) → known j ≡ true → eqb i j ≡ true → get_or (set sets i v) j 0 ≡ mask_below width (P' j)
      own force j d e =
          let k : i ≡ j = eqb-true i j e in
          let l : i < length sets = omega (arith, within, has.size) in
          ap (get_or (set sets i v) j) refl
          ∙ ap (λ (x : ℕ). get_or (set sets i v) x 0) (sym k) ∙ get_or-set_same sets i v 0 l
          ∙ here force (ap known k ∙ d) ∙ ap (λ (x : ℕ). mask_below width (P' x)) k

      other : on ≡ true → (j : ℕ) → known j ≡ true → eqb i j ≡ false → get_or (set sets i v) j 0 ≡ mask_below width (P' j)
      other force j d e =
          let differs = eqb-false i j e in
          get_or-set_other sets i j v 0 (λ k. differs (sym k)) ∙ has.at force j d
          ∙ mask_ext width (P j) (P' j) (λ y l. sym (others force j y e))

-- ---- roles

-- a role holds a set and one right more where it holds the set and the right
covers_more : (own u x : ℕ) → u < 2 ^ 64 → x < 64 → covers own (with_bit u x) ≡ covers own u && bit own x
unfolding covers
covers_more own u x small l =
    bool_ext _ _
    (λ e.
    let sub = eqb-true _ _ e in
    and_both _ _
    (eq-eqb _ _ (bit_subset 64 u own small (λ k m b.
    subset_bit (with_bit u x) own k sub (bit_with u x k ∙ or_right (eqb k x) _ b))))
    (subset_bit (with_bit u x) own x sub (bit_with u x x ∙ or_left (eqb x x) _ (eq-eqb x x refl))))
    (λ e.
    let sub = eqb-true _ _ (and_left (eqb (bit_and u own) u) (bit own x) e) in
    eq-eqb _ _ (bit_subset 64 (with_bit u x) own (with_lt 64 u x small l) (λ k m b.
    ⊎_elim
    (λ i. rw (eqb-true k x i) (and_right (eqb (bit_and u own) u) (bit own x) e))
    (λ w. subset_bit u own k sub w)
    (or_cases (eqb k x) _ (sym (bit_with u x k) ∙ b)))))

module _ (t : Tables) (H : Request → Bool) (ok : given t ≡ true) (r : Request) (d : declared t r ≡ true) where
  small : right t r < 64
  small = right_below t H (subject r) ok r d

  own_right : right t r % 64 ≡ right t r
  own_right = mod-eq_of_lt small

  -- roles permit where a role that holds all rights used holds the new one
  pub roles_kept : (holding holders : ℕ) → holding ≡ mask_below 32 (holds_all t H (subject r)) → holders ≡ mask_below 32 (holds_right t
      (right t r))
      → roles t H r ≡ not (eqb (bit_and holding holders) 0)
  unfolding holds_all holds_right
  roles_kept holding holders e f =
      let some = mask_below 32 (holds_all t H (subject r)) in
      let all = mask_below 32 (holds_right t (right t r)) in
      let used-set = mask_below 64 (used t H (subject r)) in
      roles_any t H (subject r) ok r d refl
      ∙ any_ext 32 _ (bit (bit_and some all)) (λ k l.
      ap (λ (x : ℕ). covers (role_at t k).rights (with_bit used-set x)) own_right
      ∙ covers_more (role_at t k).rights used-set (right t r) (mask_lt 64 (used t H (subject r))) small
      ∙ sym (bit_and_lem some all k
      ∙ ap₂ ◌&&◌ (bit_mask_below 32 (holds_all t H (subject r)) k l) (bit_mask_below 32 (holds_right t (right t r)) k l)))
      ∙ sym (not_empty (bit_and some all) (omega (arith, and_le_l some all, mask_lt 32 (holds_all t H (subject r)))))
      ∙ ap₂ (λ (x y : ℕ). not (eqb (bit_and x y) 0)) (sym e) (sym f)
    where
      not_empty : (m : ℕ) → m < 2 ^ 32 → not (eqb m 0) ≡ any_below 32 (bit m)
      not_empty m l = ap not (empty_none 32 m l) ∙ twice (any_below 32 (bit m))
        where
          twice : (b : Bool) → not (not b) ≡ b
          twice true = refl
          twice false = refl

  -- the rights that a person used, with the new one
  used_more : (j : ℕ)
      → mask_below 64 (used t (with_request H r) j)
      ≡ cond (eqb (subject r) j) (with_bit (mask_below 64 (used t H j)) (right t r)) (mask_below 64 (used t H j))
  used_more j =
      mask_ext 64 _ _ (λ y l. one_more.rights t H r j y d)
      ∙ sym (mask_with 64 (used t H j) (right t r) (eqb (subject r) j) small)

  holds_more : (j k : ℕ)
      → holds_all t (with_request H r) j k
      ≡ cond (eqb (subject r) j) (holds_all t H j k && holds_right t (right t r) k) (holds_all t H j k)
  unfolding holds_all holds_right
  holds_more j k = ap (covers (role_at t k).rights) (used_more j) ∙ go (eqb (subject r) j)
    where
      go : (b : Bool)
          → covers (role_at t k).rights (cond b (with_bit (mask_below 64 (used t H j)) (right t r)) (mask_below 64 (used t H j)))
          ≡ cond b (covers (role_at t k).rights (mask_below 64 (used t H j)) && bit (role_at t k).rights (right t r))
          (covers (role_at t k).rights (mask_below 64 (used t H j)))
      go true = covers_more (role_at t k).rights (mask_below 64 (used t H j)) (right t r) (mask_lt 64 (used t H j)) small
      go false = refl

  mask_and : (n : ℕ) (p q : ℕ → Bool) → bit_and (mask_below n p) (mask_below n q) ≡ mask_below n (λ k. p k && q k)
  mask_and n p q =
      mask_of_bits n _ _ (lt_of_le_of_lt (and_le_l (mask_below n p) (mask_below n q)) (mask_lt n p)) (λ k l.
      bit_and_lem (mask_below n p) (mask_below n q) k ∙ ap₂ ◌&&◌ (bit_mask_below n p k l) (bit_mask_below n q k l))

  -- the roles that hold all rights, after the request: those that hold the new one too
  pub holding_more : (made : Bool) (holding : List ℕ) (holders : ℕ) → made ≡ in_force t roles_rule → subject r < 64
      → person_declared t (subject r) ≡ true
      → (in_force t roles_rule ≡ true → holders ≡ mask_below 32 (holds_right t (right t r))) → HasHolding t H holding
      → HasHolding t (with_request H r) (cond made (set holding (subject r) (bit_and (get_or holding (subject r) 0) holders)) holding)
  holding_more made holding holders same within known Has-right has =
      sets_stored made holding (subject r) _ same within
      (λ force d'.
      ap₂ bit_and (has.at force (subject r) known) (Has-right force)
      ∙ mask_and 32 (holds_all t H (subject r)) (holds_right t (right t r))
      ∙ mask_ext 32 _ _ (λ k l. sym (holds_more (subject r) k ∙ rw (eq-eqb (subject r) (subject r) refl))))
      (λ force j k other. holds_more j k ∙ rw other)
      has
