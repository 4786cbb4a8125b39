-- What is kept says of a request of declared parties what each rule's definition says: the wall by the firms counted, low-water by the
-- sets of the two levels, the roles by those that hold all rights, the pipeline by the steps that may be next; and the marks say whether
-- the parties of a request in range are declared.
use Prim.Native.Nat.{ℕ, ◌+◌, ◌-◌, ◌%◌, ◌<◌}
use native.Mathlib.Nat.{mod-eq_of_lt}
use native.Mathlib.Omega.{arith}
use mathlib.Core.Path.{◌≡◌, refl, sym, ap, ap₂, ◌∙◌}
use mathlib.Core.Logic.{⊎_elim}
use mathlib.Core.Bool.{Bool, true, false, cond, not, ◌&&◌, ◌||◌}
use mathlib.Core.List.{List}
use lib.Dec.{eqb, ltb, leb}
use lib.Bits.{bit_and}
use lib.ListN.{get_or}
use borrow.Author.Tests.{le-ltb, ltb-true, ltb-false, le-leb}
use Rattle.bits.specs.Bits.{bit, mask_below}
use Rattle.bits.proofs.Booleans.{decide, and_left, and_right, false_intro, false_elim}
use Rattle.bits.proofs.Masks.{bit_mask_below}
use Rattle.level.specs.declared.Comparison.TheVariants.{AtMost, RankTooLow, CompartmentMissing}
use Rattle.level.specs.Levels.{compare_of}
use Rattle.level.specs.Sets.{level_set}
use Rattle.level.proofs.SetLaws.{outcome}
use Rattle.policy.specs.declared.Folder.{Folder}
use Rattle.policy.specs.declared.Tables.{Tables}
use Rattle.policy.specs.Tables.{folder_at, person_at, person_declared, folder_declared, class_of}
use Rattle.policy.specs.Rulebook.{given}
use Rattle.policy.specs.Request.{Request, read, write, start, step, subject, has_place}
use Rattle.policy.specs.Levels.{level_at}
use Rattle.policy.specs.Rules.{declared, counted, wall, wall_access, level_outcome, modify_outcome, pipeline}
use Rattle.policy.specs.OneMore.{folder_of, step_of}
use Rattle.policy.proofs.Requests.{declared_place}
use Rattle.rules.specs.Sets.{firms_of, wall_in}
use Rattle.rules.specs.Kept.{may_be_next}
use Rattle.rules.proofs.SetLaws.{wall_in_lem}
use Rattle.levels.specs.Sets.{LevelSets}
use Rattle.levels.proofs.SetLaws.{level_lt}
use Rattle.branchfree.specs.Kinds.{target_of, asks_level, is_access, is_step}
use Rattle.branchfree.specs.Failing.{rivals, rank_lacks, compartment_lacks}

-- ---- the sets of levels

-- the level at a place of the sets, and its mark
abbrev pub level_in : Tables → List ℕ → ℕ → ℕ
level_in t l i = cond (ltb i 64) (level_at l i) (folder_at t (i - 64)).level.0

abbrev pub mark_in : Tables → ℕ → Bool
mark_in t i = cond (ltb i 64) (not (person_at t i).declared) (not (folder_at t (i - 64)).declared)

module _ (t : Tables) (l sets : List ℕ) (has : LevelSets t l sets) (i : ℕ) (within : i < 192) where
  pub set_at : get_or sets i 0 ≡ level_set (level_in t l i) (mark_in t i)
  set_at =
      ⊎_elim (λ e. rw e (has.persons i (ltb-true i 64 e)))
      (λ e.
      let k = ltb-false i 64 e in
      let back : 64 + (i - 64) ≡ i = omega arith in
      rw e (rw back at (has.folders (i - 64) (omega arith))))
      (decide (ltb i 64))

  pub level_small : level_in t l i < 65536
  level_small =
      ⊎_elim (λ e. rw e (level_lt l i has.buffer))
      (λ e. let k = ltb-false i 64 e in rw e (has.levels (i - 64) (omega arith)))
      (decide (ltb i 64))

-- ---- the parties

marks : (p f : Bool) → (not f || not p) ≡ not (p && f)
marks true true = refl
marks true false = refl
marks false true = refl
marks false false = refl

folder_mark : (t : Tables) (o : ℕ) → mark_in t (64 + o) ≡ not (folder_at t o).declared
folder_mark t o = let e : 64 + o - 64 ≡ o = omega arith in rw (le-ltb (64 + o) 64 (omega arith), e)

folder_level : (t : Tables) (l : List ℕ) (o : ℕ) → level_in t l (64 + o) ≡ (folder_at t o).level.0
folder_level t l o = let e : 64 + o - 64 ≡ o = omega arith in rw (le-ltb (64 + o) 64 (omega arith), e)

in_place : (t : Tables) (q : Request) → has_place q ≡ true
    → (mark_in t (target_of q) || not (person_at t (subject q)).declared) ≡ not (declared t q)
unfolding has_place target_of subject declared person_declared folder_declared
in_place t (read s o) e =
    rw (folder_mark t o, and_left (ltb s 64) (ltb o 128) e, and_right (ltb s 64) (ltb o 128) e)
    (marks (person_at t s).declared (folder_at t o).declared)
in_place t (write s o) e =
    rw (folder_mark t o, and_left (ltb s 64) (ltb o 128) e, and_right (ltb s 64) (ltb o 128) e)
    (marks (person_at t s).declared (folder_at t o).declared)
in_place t (start s u) e =
    rw (and_left (ltb s 64) (ltb u 64) e, and_right (ltb s 64) (ltb u 64) e)
    (marks (person_at t s).declared (person_at t u).declared)
in_place t (step s p o) e =
    let both = and_left (ltb s 64 && ltb p 16) (ltb o 128) e in
    let below = ltb-true p 16 (and_right (ltb s 64) (ltb p 16) both) in
    rw (
      folder_mark t o,
      and_left (ltb s 64) (ltb p 16) both,
      and_right (ltb s 64 && ltb p 16) (ltb o 128) e,
      le-leb p 15 (omega arith),
      and-true (person_at t s).declared,
    )
    (marks (person_at t s).declared (folder_at t o).declared)
  where
    and-true : (b : Bool) → b && true ≡ b
    and-true true = refl
    and-true false = refl

pub parties_known : (t : Tables) (q : Request) (i s : ℕ) → (has_place q ≡ true → (i ≡ target_of q) × (s ≡ subject q))
    → (not (has_place q) || (mark_in t i || not (person_at t s).declared)) ≡ not (declared t q)
parties_known t q i s exact =
    ⊎_elim
    (λ e.
    let (target, person) = exact e in
    rw (e, target, person) (in_place t q e))
    (λ e. rw e (sym (ap not (false_intro (declared t q) (λ d. false_elim (has_place q) e (declared_place t q d))))))
    (decide (has_place q))

-- ---- the rules

and_no : (b : Bool) → b && false ≡ false
and_no true = refl
and_no false = refl

and_yes : (b : Bool) → b && true ≡ b
and_yes true = refl
and_yes false = refl

passes : (p z b : Bool) → p || (z || b) ≡ not ((not z && not b) && (not p && true))
passes true true true = refl
passes true true false = refl
passes true false true = refl
passes true false false = refl
passes false true true = refl
passes false true false = refl
passes false false true = refl
passes false false false = refl

module _ (t : Tables) (H : Request → Bool) (l : List ℕ) where
  -- low-water
  by_outcome : (a b : ℕ)
      → compare_of 12 a b
      ≡ cond (rank_lacks a b && true) RankTooLow (cond (compartment_lacks a b && true) CompartmentMissing AtMost)
  unfolding rank_lacks compartment_lacks
  by_outcome a b = rw (and_yes (rank_lacks a b), and_yes (compartment_lacks a b)) (outcome a b)

  pub outcome_known : (q : Request) → has_place q ≡ true
      → level_outcome t (level_at l) q
      ≡ cond (rank_lacks (level_in t l (target_of q)) (level_at l (subject q)) && asks_level q) RankTooLow
      (cond (compartment_lacks (level_in t l (target_of q)) (level_at l (subject q)) && asks_level q) CompartmentMissing AtMost)
  unfolding level_outcome modify_outcome target_of subject asks_level has_place
  outcome_known (read s o) place =
      rw (and_no (rank_lacks (level_in t l (64 + o)) (level_at l s)), and_no (compartment_lacks (level_in t l (64 + o)) (level_at l s)))
  outcome_known (write s o) place = rw (folder_level t l o) (by_outcome (folder_at t o).level.0 (level_at l s))
  outcome_known (start s u) place =
      rw (and_right (ltb s 64) (ltb u 64) place) (by_outcome (level_at l u) (level_at l s))
  outcome_known (step s p o) place = rw (folder_level t l o) (by_outcome (folder_at t o).level.0 (level_at l s))

  -- the wall, for the entry of the request's folder
  module _ (ok : given t ≡ true) (e : Folder) (firms class : ℕ) where
    wall_access_lem : (s o : ℕ) → folder_declared t o ≡ true → e ≡ folder_at t o → firms ≡ mask_below 64 (counted t H s)
        → class ≡ firms_of t (class_of t o) → wall_access t H s o ≡ not (rivals firms class e.firm && (not e.public && true))
    unfolding rivals wall_in
    wall_access_lem s o known entry own of-class =
        sym (wall_in_lem t H s ok o firms class known own of-class)
        ∙ ap (λ (x : Folder). wall_in x firms class) (sym entry)
        ∙ passes e.public (eqb (bit_and firms class) 0) (bit firms (e.firm % 64))

    pub wall_known : (q : Request) → declared t q ≡ true
        → (is_access q ≡ true → (e ≡ folder_at t (folder_of q)) × (class ≡ firms_of t (class_of t (folder_of q))))
        → firms ≡ mask_below 64 (counted t H (subject q))
        → wall t H q ≡ not (rivals firms class e.firm && (not e.public && is_access q))
    unfolding wall is_access folder_of subject declared
    wall_known (read s o) d entry own =
        wall_access_lem s o (and_right (person_declared t s) (folder_declared t o) d) (entry refl).0 own (entry refl).1
    wall_known (write s o) d entry own =
        wall_access_lem s o (and_right (person_declared t s) (folder_declared t o) d) (entry refl).0 own (entry refl).1
    wall_known (start s u) d entry own =
        sym (ap not (ap (λ (b : Bool). rivals firms class e.firm && b) (and_no (not e.public)) ∙ and_no (rivals firms class e.firm)))
    wall_known (step s p o) d entry own =
        wall_access_lem s o (and_right (person_declared t s && leb p 15) (folder_declared t o) d) (entry refl).0 own (entry refl).1

  -- the pipeline
  pub pipeline_known : (q : Request) (next : ℕ) → has_place q ≡ true → (is_step q ≡ true → next ≡ mask_below 16 (may_be_next t H (folder_of q)))
      → pipeline t H q ≡ not (not (bit next (step_of q % 64)) && is_step q)
  unfolding pipeline is_step folder_of step_of may_be_next has_place
  pipeline_known (read s o) next place has = sym (ap not (and_no (not (bit next (0 % 64)))))
  pipeline_known (write s o) next place has = sym (ap not (and_no (not (bit next (0 % 64)))))
  pipeline_known (start s u) next place has = sym (ap not (and_no (not (bit next (0 % 64)))))
  pipeline_known (step s p o) next place has =
      let below = ltb-true p 16 (and_right (ltb s 64) (ltb p 16) (and_left (ltb s 64 && ltb p 16) (ltb o 128) place)) in
      sym
      (ap not (and_yes (not (bit next (p % 64)))) ∙ twice (bit next (p % 64))
      ∙ ap₂ bit (has refl) (mod-eq_of_lt (let z : p < 64 = omega arith in z))
      ∙ bit_mask_below 16 (may_be_next t H o) p below)
    where
      twice : (b : Bool) → not (not b) ≡ b
      twice true = refl
      twice false = refl
