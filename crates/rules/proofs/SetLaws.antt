-- The wall and the roles over sets are the rules of the definitions: a firm is in the set exactly where the wall counts it, a right
-- exactly where the person used it, and a declared folder's firm and kind are within the sets' bounds.
use Prim.Native.Nat.{ℕ, ◌%◌, ◌^◌, ◌<◌}
use native.Mathlib.Nat.{lt_of_le_of_lt}
use native.Mathlib.Omega.{arith}
use mathlib.Core.Path.{◌≡◌, refl, sym, ap, ap₂, ◌∙◌, subst}
use mathlib.Core.Logic.{⊎_elim}
use mathlib.Core.Bool.{Bool, true, false, not, ◌&&◌, ◌||◌, or_comm}
use mathlib.Core.List.{List}
use lib.Dec.{eqb, leb, ltb}
use lib.Bits.{bit_and, and_le_l}
use lib.ListN.{get_or}
use borrow.Author.Tests.{eqb-true, eq-eqb, not-true, leb-true, lt-ltb}
use Rattle.bits.specs.Bits.{bit, with_bit, mask_below}
use Rattle.bits.specs.Bounded.{any_below, ◌implies◌}
use Rattle.bits.proofs.Booleans.{
  and_left,
  and_right,
  and_both,
  or_cases,
  or_left,
  or_right,
  implies_elim,
  implies_intro,
  bool_ext,
  decide,
  false_elim,
  false_intro,
}
use Rattle.bits.proofs.Bounds.{any_some, some_any, any_ext, all_at, all_of}
use Rattle.bits.proofs.BitLaws.{bit_and_lem, bit_with, bit_zero, with_lt, subset_bit, bit_subset}
use Rattle.bits.proofs.Masks.{mask_lt, bit_mask, bit_mask_below, empty_none}
use Rattle.policy.specs.declared.Role.{Role}
use Rattle.policy.specs.declared.Tables.{Tables}
use Rattle.policy.specs.Tables.{firm_at, folder_at, role_at, folder_declared, person_declared, role_declared, class_of, is_public}
use Rattle.policy.specs.Rulebook.{given}
use Rattle.policy.specs.Request.{Request, read, write, start, step, subject}
use Rattle.policy.specs.Rules.{
  declared,
  right,
  did,
  some_request,
  counts,
  counted,
  other_class,
  wall_access,
  used,
  role_covers,
  roles,
}
use Rattle.policy.proofs.Requests.{declared_place}
use Rattle.policy.proofs.Accesses.{
  some_request_lem,
  request_some,
  did_in,
  access_declared,
  firm_some,
  some_firm,
  counts_some,
}
use Rattle.policy.proofs.GivenEntries.{given_entries, folder_firm, folder_kind, role_cases}
use Rattle.rules.specs.Sets.{firms_of, HasRoles, wall_in, covers, roles_in}

-- ---- the wall

module _ (t : Tables) (H : Request → Bool) (s : ℕ) where
  -- a firm is in the set where some folder of it counts
  in_set : (f : ℕ) → f < 64 → bit (mask_below 64 (counted t H s)) (f % 64) ≡ counted t H s f
  in_set f l =
      let own : f % 64 ≡ f = omega arith in
      ap (bit (mask_below 64 (counted t H s))) own ∙ bit_mask_below 64 (counted t H s) f l

  -- firm f counts and is of the class
  rival : ℕ → ℕ → Bool
  rival class f = counted t H s f && eqb (firm_at t f).class class

  common : (class : ℕ) → eqb (bit_and (mask_below 64 (counted t H s)) (firms_of t class)) 0 ≡ not (any_below 64 (rival class))
  unfolding firms_of rival
  common class =
      let firms = mask_below 64 (counted t H s) in
      let of-class = mask_below 64 (λ f. eqb (firm_at t f).class class) in
      empty_none 64 (bit_and firms of-class) (lt_of_le_of_lt (and_le_l firms of-class) (mask_lt 64 (counted t H s)))
      ∙ ap not
      (any_ext 64 (bit (bit_and firms of-class)) (rival class) (λ f l.
      bit_and_lem firms of-class f
      ∙ ap₂ ◌&&◌ (bit_mask_below 64 (counted t H s) f l) (bit_mask_below 64 (λ f. eqb (firm_at t f).class class) f l)))

  -- some firm that counts is of the class: some folder that counts is
  rival_counted : (class : ℕ) → any_below 64 (rival class) ≡ true → other_class t H s class ≡ false
  unfolding rival other_class counted class_of
  rival_counted class e =
      let (f, l, w) = any_some 64 (rival class) e in
      let (o, k, c, of-firm) = firm_some t (counts t H s) f (and_left (counted t H s f) _ w) in
      false_intro (other_class t H s class) (λ all.
      let other =
      implies_elim (counts t H s o) _ (all_at 128 (λ o. counts t H s o implies not (eqb (class_of t o) class)) all o k) c in
      false_elim (eqb (class_of t o) class) (not-true _ other)
      (ap (λ (i : ℕ). eqb (firm_at t i).class class) (sym of-firm) ∙ and_right (counted t H s f) _ w))

  module _ (ok : given t ≡ true) where
    -- no firm that counts is of the class: no folder that counts is
    no_rival : (class : ℕ) → any_below 64 (rival class) ≡ false → other_class t H s class ≡ true
    unfolding rival other_class counted class_of
    no_rival class none =
        all_of 128 (λ o. counts t H s o implies not (eqb (class_of t o) class)) (λ o l.
        implies_intro (counts t H s o) _ (λ c.
        let (r, h, access) = (counts_some t H s o c).0 in
        let small = folder_firm t ok o (access_declared t r s o h.0 access) in
        let f = (folder_at t o).firm in
        let member = some_firm t (counts t H s) f o l c refl in
        ap not
        (false_intro (eqb (class_of t o) class) (λ same.
        false_elim (any_below 64 (rival class)) none (some_any 64 (rival class) f small (and_both _ _ member same))))))

    rivals : (class : ℕ) → not (any_below 64 (rival class)) ≡ other_class t H s class
    rivals class =
        ⊎_elim (λ y. ap not y ∙ sym (rival_counted class y)) (λ n. ap not n ∙ sym (no_rival class n))
        (decide (any_below 64 (rival class)))

    pub wall_in_lem : (o firms class : ℕ) → folder_declared t o ≡ true → firms ≡ mask_below 64 (counted t H s)
        → class ≡ firms_of t (class_of t o) → wall_in (folder_at t o) firms class ≡ wall_access t H s o
    unfolding wall_in wall_access
    wall_in_lem o firms class known e f =
        rw (e, f)
        (ap (λ (b : Bool). is_public t o || b)
        (ap₂ ◌||◌ (common (class_of t o) ∙ rivals (class_of t o)) (in_set (folder_at t o).firm (folder_firm t ok o known))
        ∙ or_comm (other_class t H s (class_of t o)) (counted t H s (folder_at t o).firm)))

    -- ---- roles

    -- a declared request has one of 64 rights
    pub right_below : (q : Request) → declared t q ≡ true → right t q < 64
    unfolding right declared
    right_below (read s o) d = let k = folder_kind t ok o (and_right (person_declared t s) _ d) in omega arith
    right_below (write s o) d = let k = folder_kind t ok o (and_right (person_declared t s) _ d) in omega arith
    right_below (start s u) d = omega arith
    right_below (step s p o) d =
        let l = leb-true p 15 (and_right (person_declared t s) _ (and_left (person_declared t s && leb p 15) _ d)) in omega arith

    -- the right of a request in the set is used
    used_own : (q : Request) → declared t q ≡ true → did t H q ≡ true → used t H (subject q) (right t q) ≡ true
    unfolding used
    used_own q d done =
        request_some (λ p. did t H p && eqb (right t p) (right t q)) q (declared_place t q d)
        (and_both _ _ done (eq-eqb (right t q) (right t q) refl))

    module _ (r : Request) (known : declared t r ≡ true) (own : subject r ≡ s) where
      rights : ℕ
      rights = mask_below 64 (used t H s)

      wanted_bit : (x : ℕ) → bit (with_bit rights (right t r % 64)) x ≡ eqb x (right t r) || (ltb x 64 && used t H s x)
      unfolding rights
      wanted_bit x =
          let l = right_below r known in
          let e : right t r % 64 ≡ right t r = omega arith in
          ap (λ (i : ℕ). bit (with_bit rights i) x) e ∙ bit_with rights (right t r) x
          ∙ ap (λ (b : Bool). eqb x (right t r) || b) (bit_mask 64 (used t H s) x)

      wanted_lt : with_bit rights (right t r % 64) < 2 ^ 64
      unfolding rights
      wanted_lt = with_lt 64 rights (right t r % 64) (mask_lt 64 (used t H s)) (omega arith)

      outside : ℕ → Request → Bool
      outside k q = did t H q && not (bit (role_at t k).rights (right t q))

      -- all rights wanted are in the role: no request of the person has a right outside it
      subset_covers : (k : ℕ) → bit_and (with_bit rights (right t r % 64)) (role_at t k).rights ≡ with_bit rights (right t r % 64)
          → role_covers t H r k ≡ true
      unfolding role_covers outside used
      subset_covers k sub =
          let in-role : (x : ℕ) → bit (with_bit rights (right t r % 64)) x ≡ true → bit (role_at t k).rights x ≡ true =
          λ x b. subset_bit (with_bit rights (right t r % 64)) (role_at t k).rights x sub b in
          and_both _ _ (in-role (right t r) (wanted_bit (right t r)
          ∙ or_left (eqb (right t r) (right t r)) _ (eq-eqb (right t r) (right t r) refl)))
          (ap not
          (false_intro (some_request (outside k) (subject r)) (λ e.
          let (q, same_person, w) = some_request_lem (outside k) (subject r) e in
          let done = and_left (did t H q) _ w in
          let d = (did_in t H q done).0 in
          let l = right_below q d in
          let u : used t H s (right t q) ≡ true =
          subst (λ (i : ℕ). used t H i (right t q) ≡ true) (same_person ∙ own) (used_own q d done) in
          false_elim (bit (role_at t k).rights (right t q)) (not-true _ (and_right (did t H q) _ w))
          (in-role (right t q) (wanted_bit (right t q) ∙ or_right (eqb (right t q) (right t r)) _ (and_both _ _ (lt-ltb _ 64 l) u))))))

      covers_subset : (k : ℕ) → role_covers t H r k ≡ true
          → bit_and (with_bit rights (right t r % 64)) (role_at t k).rights ≡ with_bit rights (right t r % 64)
      unfolding role_covers outside used
      covers_subset k c =
          let none = not-true _ (and_right (bit (role_at t k).rights (right t r)) _ c) in
          bit_subset 64 (with_bit rights (right t r % 64)) (role_at t k).rights wanted_lt (λ x l b.
          ⊎_elim
          (λ i. rw (eqb-true x (right t r) i) (and_left (bit (role_at t k).rights (right t r)) _ c))
          (λ u.
          let (q, same_person, w) =
          some_request_lem (λ p. did t H p && eqb (right t p) x) s (and_right (ltb x 64) _ u) in
          let done = and_left (did t H q) _ w in
          let of_right = eqb-true (right t q) x (and_right (did t H q) _ w) in
          ⊎_elim (λ y. y)
          (λ n.
          let found =
          request_some (outside k) q (declared_place t q (did_in t H q done).0)
          (and_both _ _ done (ap not (ap (bit (role_at t k).rights) of_right ∙ n))) in
          absurd
          (false_elim (some_request (outside k) (subject r)) none
          (subst (λ (i : ℕ). some_request (outside k) i ≡ true) (same_person ∙ sym own) found)))
          (decide (bit (role_at t k).rights x)))
          (or_cases (eqb x (right t r)) _ (sym (wanted_bit x) ∙ b)))

      -- a role that holds the new right is declared, since the rights of an undeclared one are empty
      holds_declared : (k : ℕ) → k < 32 → bit (role_at t k).rights (right t r) ≡ true → role_declared t k ≡ true
      unfolding role_declared
      holds_declared k l b =
          and_both _ _ (lt-ltb k 32 l)
          (⊎_elim
          (λ e. absurd (false_elim (bit 0 (right t r)) (bit_zero (right t r)) (rw e at b)))
          (λ e. ap (λ (x : Role). x.declared) e)
          (role_cases (role_at t k) ((given_entries t ok).roles k l)))

      covers_at : (k : ℕ) → k < 32 → covers (role_at t k).rights (with_bit rights (right t r % 64)) ≡ role_declared t k && role_covers t H r k
      unfolding covers role_covers
      covers_at k l =
          bool_ext _ _
          (λ e.
          let c = subset_covers k (eqb-true _ _ e) in
          and_both _ _ (holds_declared k l (and_left (bit (role_at t k).rights (right t r)) _ c)) c)
          (λ e. eq-eqb _ _ (covers_subset k (and_right (role_declared t k) _ e)))

      pub roles_in_lem : (own : List ℕ) (wanted : ℕ) → HasRoles t own → wanted ≡ with_bit (mask_below 64 (used t H s)) (right t r % 64)
          → roles_in own wanted ≡ roles t H r
      unfolding roles_in roles rights
      roles_in_lem own wanted has e =
          any_ext 32 (λ k. covers (get_or own k 0) wanted) (λ k. role_declared t k && role_covers t H r k)
          (λ k l. ap₂ covers (has.at k l) e ∙ covers_at k l)

      -- the roles, role by role
      pub roles_any : roles t H r ≡ any_below 32 (λ k. covers (role_at t k).rights (with_bit (mask_below 64 (used t H s)) (right t r % 64)))
      unfolding roles rights
      roles_any = any_ext 32 _ _ (λ k l. sym (covers_at k l))
