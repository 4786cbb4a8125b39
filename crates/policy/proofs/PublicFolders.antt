-- The wall passes public folders over, and nothing else looks at a mark. A request for a public folder passes the wall, and the wall asks
-- of the past only what was accessed and is not public; what marks change is in MarksAlone.
use Prim.Native.Nat.{ℕ}
use mathlib.Core.Path.{◌≡◌, refl, sym, ap, ap₂, ◌∙◌, fun_ext}
use mathlib.Core.Logic.{⊎_elim}
use mathlib.Core.Bool.{Bool, true, false, not, ◌&&◌, ◌||◌}
use mathlib.Core.Option.{Option, none, some}
use lib.Dec.{eqb}
use Rattle.bits.specs.Bounded.{any_below, all_below, ◌implies◌}
use Rattle.bits.proofs.Booleans.{or_left, implies_intro, decide}
use Rattle.policy.specs.declared.Tables.{Tables}
use Rattle.policy.specs.Tables.{folder_at, class_of, is_public, in_force, wall_rule}
use Rattle.policy.specs.Rulebook.{given}
use Rattle.policy.specs.Request.{Request, read, write, start, step, request_of, set_of}
use Rattle.policy.specs.Rules.{declared, firm_of_some, did, stepped, accessed, counts, counted, other_class, wall_access, wall}
use Rattle.policy.specs.Levels.{level_at}
use Rattle.policy.specs.Calls.{State, judge_number}
use Rattle.policy.specs.Published.{NotPublic, Access}
use Rattle.policy.specs.PublicFolders.{SameButPublic, PublicFolders}
use Rattle.policy.proofs.Fronts.{front_request}
use Rattle.policy.proofs.CallChecks.{size_right, held_right}
use Rattle.policy.proofs.WallNumber.{
  number_of,
  after_wall,
  walled,
  after_other,
  judged_number,
  judged_as_lem,
  cut_as,
  passed_other,
  same_fourteen,
}
use Rattle.policy.proofs.MarksAlone.{level_same, others_same, elsewhere_same, standing_same, put_same}

-- ---- what the wall asks of the past

module _ (t : Tables) (H H' : Request → Bool)
    (same : (q : Request) (s o : ℕ) → Access q s o → NotPublic t o → H q ≡ H' q) where
  same_did : (q : Request) (s o : ℕ) → Access q s o → NotPublic t o → did t H q ≡ did t H' q
  unfolding did
  same_did q s o a n = ap (λ (b : Bool). b && declared t q) (same q s o a n)

  same_accessed : (s o : ℕ) → NotPublic t o → accessed t H s o ≡ accessed t H' s o
  unfolding accessed stepped
  same_accessed s o n =
      ap₂ ◌||◌ (ap₂ ◌||◌ (same_did (read s o) s o (refl, refl) n) (same_did (write s o) s o (refl, refl) n))
      (ap (any_below 16) (fun_ext (λ p. same_did (step s p o) s o (refl, refl) n)))

  same_counts : (s o : ℕ) → counts t H s o ≡ counts t H' s o
  unfolding counts
  same_counts s o =
      ⊎_elim (λ (p : is_public t o ≡ true). rw p (never (accessed t H s o) (accessed t H' s o)))
      (λ (n : is_public t o ≡ false). ap (λ (b : Bool). b && not (is_public t o)) (same_accessed s o n)) (decide (is_public t o))
    where
      never : (a b : Bool) → a && false ≡ b && false
      never true true = refl
      never true false = refl
      never false true = refl
      never false false = refl

  same_access : (s o : ℕ) → wall_access t H s o ≡ wall_access t H' s o
  unfolding wall_access counted other_class
  same_access s o =
      ap
      (λ (count : ℕ → Bool).
      is_public t o
      || (firm_of_some t count (folder_at t o).firm || all_below 128 (λ i. count i implies not (eqb (class_of t i) (class_of t o)))))
      (fun_ext (same_counts s))

  same_wall : (r : Request) → wall t H r ≡ wall t H' r
  unfolding wall
  same_wall (read s o) = same_access s o
  same_wall (write s o) = same_access s o
  same_wall (start s u) = refl
  same_wall (step s p o) = same_access s o

public_wall : (t : Tables) (H : Request → Bool) (r : Request) (s o : ℕ) → Access r s o → (folder_at t o).public ≡ true
    → wall t H r ≡ true
unfolding wall wall_access
public_wall t H (read s o) s' o' a p = or_left (is_public t o) _ (rw a.1 p)
public_wall t H (write s o) s' o' a p = or_left (is_public t o) _ (rw a.1 p)
public_wall t H (start s u) s' o' a p = absurd a
public_wall t H (step s n o) s' o' a p = or_left (is_public t o) _ (rw a.1 p)

-- ---- the claims

one_way : (t : Tables) (a b : State) → SameButPublic t a b → (q : Option Request) → judged_number t a q ≡ 14 → judged_number t b q ≡ 14
unfolding walled
one_way t a b same (some r) e =
    let H = set_of a.history in
    let H' = set_of b.history in
    let walls : walled t H r ≡ walled t H' r =
    ap (λ (x : Bool). in_force t wall_rule implies x) (same_wall t H H' same.accesses r) in
    let later : number_of (size_right a) (held_right a) (given t) (declared t r) (walled t H r) (after_wall t H' (level_at b.levels) r) ≡ 14 =
    same_fourteen (size_right a) (held_right a) (given t) (declared t r) (walled t H r) (after_wall t H (level_at a.levels) r) _
    (after_other t H (level_at a.levels) r) (sym (judged_as_lem t a r) ∙ e) in
    judged_as_lem t b r ∙ rw (same.histories, same.levels, walls) at later
one_way t a b same none e = cut_as t a b same.histories same.levels ∙ e

back : (t : Tables) (a b : State) → SameButPublic t a b → SameButPublic t b a
back t a b same =
    record {
      histories = sym same.histories;
      levels = sym same.levels;
      accesses = λ q s o access n. sym (same.accesses q s o access n);
    }

pub public_folders : PublicFolders
unfolding judge_number judged_number walled
public_folders =
    record {
      passed = λ t a bytes rest r s o front access p.
          let H = set_of a.history in
          rw (front_request r rest front, judged_as_lem t a r)
          (passed_other (size_right a) (held_right a) (given t) (declared t r) (walled t H r) (after_wall t H (level_at a.levels) r)
          (implies_intro (in_force t wall_rule) _ (λ on. public_wall t H r s o access p)) (after_other t H (level_at a.levels) r));
      uncounted = λ t a b bytes same. (
        one_way t a b same (request_of bytes),
        one_way t b a (back t a b same) (request_of bytes),
      );
      others = λ t t' a bytes rest r s o same front access mark marks.
          rw (front_request r rest front) (others_same t t' same a r s o access mark marks);
      elsewhere = λ t t' a bytes same n n'. elsewhere_same t t' same a (request_of bytes) n n';
      standings = λ t t' a s same. standing_same t t' same a s;
      puts = λ t t' a bytes same. put_same t t' same a bytes;
      levels = λ t t' h s same. level_same t t' same (set_of h) s;
    }
