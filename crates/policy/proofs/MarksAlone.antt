-- Tables that are the same but for the marks of public folders give the same answers but for the wall's, and the same standings; the wall's
-- answer is the same too where the marks of the folder asked for and of the folders accessed are. Every rule is a function of entries that
-- are the same, so it is the same function of the set.
use Prim.Native.Nat.{ℕ, zero, suc, ◌+◌}
use mathlib.Core.Path.{◌≡◌, refl, sym, ap, ap₂, ◌∙◌, fun_ext}
use mathlib.Core.Logic.{◌≢◌}
use mathlib.Core.Bool.{Bool, true, false, cond, not, ◌&&◌, ◌||◌}
use mathlib.Core.List.{List, [], ◌∷◌}
use mathlib.Core.Option.{Option, none, some}
use lib.Dec.{eqb, leb, ltb}
use lib.ListN.{get_or}
use Rattle.bits.specs.Bits.{bit}
use Rattle.bits.specs.Bounded.{any_below, all_below, fold_below, ◌implies◌}
use Rattle.level.specs.Levels.{compare_of, meet_of}
use Rattle.policy.specs.declared.Firm.{Firm}
use Rattle.policy.specs.declared.Person.{Person}
use Rattle.policy.specs.declared.Role.{Role}
use Rattle.policy.specs.declared.Tables.{Tables}
use Rattle.policy.specs.Checks.{◌else◌, ladder}
use Rattle.policy.specs.Tables.{
  no_firm,
  no_person,
  no_role,
  role_at,
  enables,
  person_declared,
  folder_declared,
  role_declared,
  class_of,
  is_public,
  in_force,
  wall_rule,
  low_water_rule,
  roles_rule,
  pipeline_rule,
}
use Rattle.policy.specs.Rulebook.{given}
use Rattle.policy.specs.Request.{Request, read, write, start, step, subject, request_of, recorded, set_of}
use Rattle.policy.specs.Rules.{
  declared,
  right,
  some_request,
  firm_of_some,
  did,
  stepped,
  accessed,
  opened,
  counts,
  counted,
  other_class,
  wall_access,
  wall,
  observed,
  lowered_by,
  current_level,
  used,
  role_covers,
  roles,
  done,
  leads_to,
  pipeline_step,
  pipeline,
  modify_outcome,
  level_outcome,
  low_water,
}
use Rattle.policy.specs.Levels.{level_at, with_level_at, met_with, lowered}
use Rattle.policy.specs.Calls.{
  State,
  state,
  request_checks,
  call_checks,
  judge_number,
  recorded_if,
  put_state,
  standing_number,
  standing,
}
use Rattle.policy.specs.Published.{Access, Accessed}
use Rattle.policy.specs.PublicFolders.{SameButMarks, SameMark}
use Rattle.policy.proofs.Accesses.{accessed_some}
use Rattle.policy.proofs.Books.{gives}
use Rattle.policy.proofs.CallChecks.{size_right, held_right}
use Rattle.policy.proofs.WallNumber.{
  number_of,
  after_wall,
  walled,
  judged_number,
  judged_as_lem,
  same_later,
}

module _ (t t' : Tables) (same : SameButMarks t t') where
  -- ---- the tables

  given_same : given t ≡ given t'
  given_same = ((gives t).1 same.one).1 ∙ sym ((gives t').1 same.other).1

  force_same : (k : ℕ) → in_force t k ≡ in_force t' k
  unfolding in_force
  force_same k = ap (λ (m : ℕ). bit m k) same.mask

  person_same : (s : ℕ) → person_declared t s ≡ person_declared t' s
  unfolding person_declared
  person_same s = ap (λ (l : List Person). ltb s 64 && (get_or l s no_person).declared) same.persons

  folder_same : (o : ℕ) → folder_declared t o ≡ folder_declared t' o
  unfolding folder_declared
  folder_same o = ap (λ (b : Bool). ltb o 128 && b) (same.folders o).declared

  role_same : (k : ℕ) → role_declared t k ≡ role_declared t' k
  unfolding role_declared
  role_same k = ap (λ (l : List Role). ltb k 32 && (get_or l k no_role).declared) same.roles

  enables_same : (p q : ℕ) → enables t p q ≡ enables t' p q
  unfolding enables
  enables_same p q = ap (λ (l : List ℕ). bit (get_or l p 0) q) same.steps

  class_same : (o : ℕ) → class_of t o ≡ class_of t' o
  unfolding class_of
  class_same o = ap₂ (λ (l : List Firm) (f : ℕ). (get_or l f no_firm).class) same.firms (same.folders o).firm

  parties_same : (r : Request) → declared t r ≡ declared t' r
  unfolding declared
  parties_same (read s o) = ap₂ ◌&&◌ (person_same s) (folder_same o)
  parties_same (write s o) = ap₂ ◌&&◌ (person_same s) (folder_same o)
  parties_same (start s u) = ap₂ ◌&&◌ (person_same s) (person_same u)
  parties_same (step s p o) = ap₂ ◌&&◌ (ap (λ (b : Bool). b && leb p 15) (person_same s)) (folder_same o)

  right_same : (q : Request) → right t q ≡ right t' q
  unfolding right
  right_same (read s o) = (same.folders o).kind
  right_same (write s o) = ap (λ (k : ℕ). 16 + k) (same.folders o).kind
  right_same (start s u) = refl
  right_same (step s p o) = refl

  -- ---- low-water, with the same levels

  modify_same : (levels : ℕ → ℕ) (s o : ℕ) → modify_outcome t levels s o ≡ modify_outcome t' levels s o
  unfolding modify_outcome
  modify_same levels s o = ap (λ (x : ℕ). compare_of 12 x (levels s)) (same.folders o).level

  outcome_same : (levels : ℕ → ℕ) (r : Request) → level_outcome t levels r ≡ level_outcome t' levels r
  unfolding level_outcome
  outcome_same levels (read s o) = refl
  outcome_same levels (write s o) = modify_same levels s o
  outcome_same levels (start s u) = refl
  outcome_same levels (step s p o) = modify_same levels s o

  -- ---- what a granted request lowers

  met_same : (l : List ℕ) (s o : ℕ) → met_with t l s o ≡ met_with t' l s o
  unfolding met_with
  met_same l s o = ap (λ (x : ℕ). with_level_at l s (meet_of 12 (level_at l s) x)) (same.folders o).level

  lowered_same : (l : List ℕ) (r : Request) → lowered t l r ≡ lowered t' l r
  unfolding lowered
  lowered_same l (read s o) = met_same l s o
  lowered_same l (write s o) = refl
  lowered_same l (start s u) = refl
  lowered_same l (step s p o) = met_same l s o

  recorded_same : (a : State) (q : Option Request) → recorded_if t true a q ≡ recorded_if t' true a q
  unfolding recorded_if
  recorded_same a none = refl
  recorded_same a (some r) = ap (state (recorded a.history r)) (lowered_same a.levels r)

  module _ (H : Request → Bool) where
    -- ---- what was done

    did_same : (q : Request) → did t H q ≡ did t' H q
    unfolding did
    did_same q = ap (λ (b : Bool). H q && b) (parties_same q)

    stepped_same : (s i : ℕ) → stepped t H s i ≡ stepped t' H s i
    unfolding stepped
    stepped_same s i = ap (any_below 16) (fun_ext (λ p. did_same (step s p i)))

    accessed_same : (s i : ℕ) → accessed t H s i ≡ accessed t' H s i
    unfolding accessed
    accessed_same s i = ap₂ ◌||◌ (ap₂ ◌||◌ (did_same (read s i)) (did_same (write s i))) (stepped_same s i)

    observed_same : (s i : ℕ) → observed t H s i ≡ observed t' H s i
    unfolding observed
    observed_same s i = ap₂ ◌||◌ (did_same (read s i)) (stepped_same s i)

    lowered_by_same : (s o l : ℕ) → lowered_by t H s o l ≡ lowered_by t' H s o l
    unfolding lowered_by
    lowered_by_same s o l = ap₂ (λ (b : Bool) (x : ℕ). cond b (meet_of 12 l x) l) (observed_same s o) (same.folders o).level

    pub level_same : (s : ℕ) → current_level t H s ≡ current_level t' H s
    unfolding current_level
    level_same s =
        ap₂ (λ (f : ℕ → ℕ → ℕ) (first : ℕ). fold_below 128 f first) (fun_ext (λ o. fun_ext (λ l. lowered_by_same s o l)))
        (ap (λ (l : List Person). (get_or l s no_person).level.0) same.persons)

    opened_same : (s f : ℕ) → opened t H s f ≡ opened t' H s f
    unfolding opened firm_of_some
    opened_same s f =
        ap (any_below 128) (fun_ext (λ i. ap₂ ◌&&◌ (accessed_same s i) (ap (λ (g : ℕ). eqb g f) (same.folders i).firm)))

    used_same : (s x : ℕ) → used t H s x ≡ used t' H s x
    unfolding used
    used_same s x =
        ap (λ (p : Request → Bool). some_request p s)
        (fun_ext (λ q. ap₂ ◌&&◌ (did_same q) (ap (λ (y : ℕ). eqb y x) (right_same q))))

    -- ---- roles and pipeline

    covers_same : (r : Request) (k : ℕ) → role_covers t H r k ≡ role_covers t' H r k
    unfolding role_covers
    covers_same r k =
        let rights : (role_at t k).rights ≡ (role_at t' k).rights = ap (λ (l : List Role). (get_or l k no_role).rights) same.roles in
        ap₂ ◌&&◌ (ap₂ bit rights (right_same r))
        (ap (λ (p : Request → Bool). not (some_request p (subject r)))
        (fun_ext (λ q. ap₂ ◌&&◌ (did_same q) (ap not (ap₂ bit rights (right_same q))))))

    roles_same : (r : Request) → roles t H r ≡ roles t' H r
    unfolding roles
    roles_same r = ap (any_below 32) (fun_ext (λ k. ap₂ ◌&&◌ (role_same k) (covers_same r k)))

    done_same : (o p : ℕ) → done t H o p ≡ done t' H o p
    unfolding done
    done_same o p = ap (any_below 64) (fun_ext (λ s. did_same (step s p o)))

    leads_same : (o q p : ℕ) → leads_to t H o q p ≡ leads_to t' H o q p
    unfolding leads_to
    leads_same o q p =
        ap₂ ◌&&◌ (ap₂ ◌&&◌ (done_same o p) (enables_same p q))
        (ap (λ (f : ℕ → Bool). not (any_below 16 f)) (fun_ext (λ d. ap₂ ◌&&◌ (done_same o d) (enables_same p d))))

    pipeline_same : (r : Request) → pipeline t H r ≡ pipeline t' H r
    unfolding pipeline pipeline_step
    pipeline_same (read s o) = refl
    pipeline_same (write s o) = refl
    pipeline_same (start s u) = refl
    pipeline_same (step s zero o) = ap (λ (f : ℕ → Bool). not (any_below 16 f)) (fun_ext (λ d. done_same o d))
    pipeline_same (step s (suc q) o) = ap (any_below 16) (fun_ext (λ p. leads_same o (suc q) p))

    after_same : (levels : ℕ → ℕ) (r : Request) → after_wall t H levels r ≡ after_wall t' H levels r
    unfolding after_wall low_water
    after_same levels r =
        rw (
          force_same low_water_rule,
          force_same roles_rule,
          force_same pipeline_rule,
          outcome_same levels r,
          roles_same r,
          pipeline_same r,
        )

    -- ---- the wall, where the marks that it asks about are the same

    module _ (s : ℕ) (marks : (i : ℕ) → Accessed t H s i → SameMark t t' i) where
      counts_same : (i : ℕ) → counts t H s i ≡ counts t' H s i
      unfolding counts
      counts_same i =
          ap (λ (b : Bool). b && not (is_public t i)) (accessed_same s i) ∙ by (accessed t' H s i) (accessed_same s i)
        where
          by : (b : Bool) → accessed t H s i ≡ b → b && not (is_public t i) ≡ b && not (is_public t' i)
          by true e = ap not (marks i (accessed_some t H s i e))
          by false e = refl

      access_same : (o : ℕ) → SameMark t t' o → wall_access t H s o ≡ wall_access t' H s o
      unfolding wall_access counted other_class firm_of_some
      access_same o mark =
          ap₂ ◌||◌ mark
          (ap₂ ◌||◌
          (ap (any_below 128) (fun_ext (λ i. ap₂ ◌&&◌ (counts_same i) (ap₂ eqb (same.folders i).firm (same.folders o).firm))))
          (ap (all_below 128) (fun_ext (λ i. ap₂ ◌implies◌ (counts_same i) (ap not (ap₂ eqb (class_same i) (class_same o)))))))

      wall_same : (r : Request) (o : ℕ) → Access r s o → SameMark t t' o → wall t H r ≡ wall t' H r
      unfolding wall
      wall_same (read s' o') o a mark = rw (a.0, a.1) (access_same o mark)
      wall_same (write s' o') o a mark = rw (a.0, a.1) (access_same o mark)
      wall_same (start s' u) o a mark = absurd a
      wall_same (step s' p o') o a mark = rw (a.0, a.1) (access_same o mark)

-- ---- the claims

module _ (t t' : Tables) (same : SameButMarks t t') (a : State) where
  H : Request → Bool
  H = set_of a.history

  levels : ℕ → ℕ
  levels = level_at a.levels

  pub others_same : (r : Request) (s o : ℕ) → Access r s o → SameMark t t' o
      → ((i : ℕ) → Accessed t (set_of a.history) s i → SameMark t t' i) → judged_number t a (some r) ≡ judged_number t' a (some r)
  unfolding walled H levels
  others_same r s o access mark marks =
      let whole : number_of (size_right a) (held_right a) (given t) (declared t r) (walled t H r) (after_wall t H levels r)
      ≡ number_of (size_right a) (held_right a) (given t') (declared t' r) (walled t' H r) (after_wall t' H levels r) =
      rw (
        given_same t t' same,
        parties_same t t' same r,
        force_same t t' same wall_rule,
        wall_same t t' same H s marks r o access mark,
        after_same t t' same H levels r,
      ) in
      judged_as_lem t a r ∙ whole ∙ sym (judged_as_lem t' a r)

  pub elsewhere_same : (q : Option Request) → judged_number t a q ≢ 14 → judged_number t' a q ≢ 14 → judged_number t a q ≡ judged_number t' a q
  unfolding judged_number call_checks request_checks H levels
  elsewhere_same (some r) n n' =
      let whole : number_of (size_right a) (held_right a) (given t') (declared t' r) (walled t' H r) (after_wall t' H levels r)
      ≡ number_of (size_right a) (held_right a) (given t) (declared t r) (walled t' H r) (after_wall t H levels r) =
      rw (given_same t t' same, parties_same t t' same r, after_same t t' same H levels r) in
      judged_as_lem t a r
      ∙ same_later (size_right a) (held_right a) (given t) (declared t r) (walled t H r) (walled t' H r) (after_wall t H levels r)
      (λ e. n (judged_as_lem t a r ∙ e)) (λ e. n' (judged_as_lem t' a r ∙ whole ∙ e))
      ∙ sym whole ∙ sym (judged_as_lem t' a r)
  elsewhere_same none n n' =
      ap (λ (g : Bool). ladder ((size_right a else 10) ∷ (held_right a else 20) ∷ (g else 11) ∷ (false else 12) ∷ []))
      (given_same t t' same)

  number_same : (s : ℕ) → standing_number t a s ≡ standing_number t' a s
  unfolding standing_number call_checks
  number_same s = rw (given_same t t' same, person_same t t' same s)

  pub standing_same : (s : ℕ) → standing t a s ≡ standing t' a s
  unfolding standing H
  standing_same s =
      let rights : used t H s ≡ used t' H s = fun_ext (used_same t t' same H s) in
      let firms : opened t H s ≡ opened t' H s = fun_ext (opened_same t t' same H s) in
      rw (number_same s, rights, firms)

  pub put_same : (bytes : List ℕ) → judge_number t a bytes ≡ 0 → judge_number t' a bytes ≡ 0 → put_state t a bytes ≡ put_state t' a bytes
  unfolding put_state
  put_same bytes e e' = rw (e, e') (recorded_same t t' same a (request_of bytes))
