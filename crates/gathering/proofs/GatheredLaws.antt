-- What is gathered is what a run is to keep: the rows of firms and roles, turned round, are sets for each person or right, and the steps
-- done and those that may be next are sets for each folder. A rule that is not in force asks for nothing.
use Prim.Native.Nat.{ℕ, ◌+◌, ◌*◌, ◌%◌, ◌<◌}
use native.Mathlib.Nat.{mod-eq_of_lt}
use mathlib.Core.Path.{◌≡◌, sym, ap, ap₂, ◌∙◌}
use mathlib.Core.Bool.{Bool, true, false, not, ◌&&◌}
use mathlib.Core.List.{List}
use lib.Bits.{bit_and, and_zero_r}
use lib.Dec.{ltb}
use lib.ListN.{length, get_or}
use borrow.Author.Tests.{ltb-true, eq-eqb}
use Rattle.bits.specs.Bits.{bit, mask_below}
use Rattle.bits.specs.Bounded.{any_below}
use Rattle.bits.proofs.BitLaws.{and_assoc, bit_subset, bit_zero}
use Rattle.bits.proofs.Booleans.{and_left, false_elim}
use Rattle.bits.proofs.Bounds.{any_ext, some_any}
use Rattle.bits.proofs.Masks.{mask_lt, mask_none, mask_ext, bit_mask_below}
use Rattle.policy.specs.declared.Tables.{Tables}
use Rattle.policy.specs.Tables.{role_at, person_declared, folder_declared}
use Rattle.policy.specs.Rulebook.{given}
use Rattle.policy.specs.Request.{Request, set_of}
use Rattle.policy.specs.Rules.{used, done}
use Rattle.history.specs.Words.{word_at}
use Rattle.recorded.specs.Gathering.{FirstAre}
use Rattle.recorded.specs.Recorded.{step_at, stepped_at}
use Rattle.recorded.proofs.Steppers.{step_word}
use Rattle.pipeline.specs.Steps.{done_by, pipeline_in}
use Rattle.pipeline.proofs.StepLaws.{done_set, pipeline_in_lem}
use Rattle.rules.specs.Kept.{SetsFor, HasFirms, HasHolding, HasHolders, HasDone, HasNext, holds_all, holds_right, may_be_next}
use Rattle.grouping.specs.Adding.{touched_in}
use Rattle.grouping.specs.Groups.{Grouped, firm_group, kind_group}
use Rattle.grouping.specs.Turning.{turned_row}
use Rattle.gathering.specs.Users.{PersonSets, RoleRows, HolderRows, used_in, beyond}
use Rattle.gathering.proofs.RoleLaws.{narrow, covers_is}
use Rattle.gathering.proofs.UserLaws.{counted_in, used_in_lem}

-- a rule that is not in force
pub unasked : (n width : ℕ) (on : Bool) (known : ℕ → Bool) (P : ℕ → ℕ → Bool) (sets : List ℕ) → on ≡ false → length sets ≡ n
    → SetsFor n on known width P sets
unasked n width on known P sets off e = record { size = e; at = λ y j k. absurd (false_elim on off y) }

person_below_lem : (t : Tables) (s : ℕ) → person_declared t s ≡ true → s < 64
unfolding person_declared
person_below_lem t s d = ltb-true s 64 (and_left (ltb s 64) _ d)

folder_below : (t : Tables) (o : ℕ) → folder_declared t o ≡ true → o < 128
unfolding folder_declared
folder_below t o d = ltb-true o 128 (and_left (ltb o 128) _ d)

-- ---- firms and roles

pub has_firms : (t : Tables) (h groups openers r : List ℕ) → Grouped (firm_group t) groups → PersonSets (touched_in groups h) openers
    → FirstAre 64 64 (turned_row openers) r → HasFirms t (set_of h) r
unfolding turned_row
has_firms t h groups openers r known sets turned =
    record {
      size = turned.size;
      at = λ on s d.
          turned.each s (person_below_lem t s d)
          ∙ mask_ext 64 _ _ (λ f l. sets.at f s (person_below_lem t s d) ∙ counted_in t h s d groups f known l);
    }

pub has_holders : (t : Tables) (rows r : List ℕ) → RoleRows t 32 rows → FirstAre 64 64 (turned_row rows) r → HasHolders t r
unfolding turned_row holds_right
has_holders t rows r roles turned =
    record {
      size = turned.size;
      at = λ on x d.
          turned.each x (ltb-true x 64 d)
          ∙ narrow _ _ (λ k l. ap (λ (n : ℕ). bit n x) (roles.at k l)) (λ k l. ap (λ (n : ℕ). bit n x) (roles.none k l) ∙ bit_zero x);
    }

module _ (t : Tables) (h : List ℕ) (ok : given t ≡ true) (kinds users roles : List ℕ) (persons : ℕ)
    (grouped : Grouped (kind_group t) kinds) (known : persons ≡ mask_below 64 (person_declared t))
    (sets : PersonSets (used_in kinds h persons) users) (own : RoleRows t 32 roles) where
  -- a person holds a role exactly where no right used is beyond it
  holds_role : (s k : ℕ) → person_declared t s ≡ true → k < 32 → not (beyond users (get_or roles k 0) s) ≡ holds_all t (set_of h) s k
  unfolding beyond holds_all
  holds_role s k d l =
      ap not
      (any_ext 64 _ _ (λ x m.
      ap₂ (λ (n : ℕ) (b : Bool). not (bit n x) && b) (own.at k l)
      (sets.at x s (person_below_lem t s d) ∙ used_in_lem t h s d kinds persons x ok grouped known m)))
      ∙ sym (covers_is (role_at t k).rights (used t (set_of h) s))

  pub has_holding : (rows r : List ℕ) → HolderRows users roles 32 rows → FirstAre 64 64 (turned_row rows) r → HasHolding t (set_of h) r
  unfolding turned_row
  has_holding rows r holders turned =
      record {
        size = turned.size;
        at = λ on s d.
            turned.each s (person_below_lem t s d)
            ∙ narrow _ _ (λ k l. holders.at k l s (person_below_lem t s d) ∙ holds_role s k d l)
            (λ k l. ap (λ (n : ℕ). bit n s) (holders.none k l) ∙ bit_zero s);
      }

-- ---- steps

-- where nobody of the persons stepped on a folder, no step is done by them
pub none_done : (h : List ℕ) (o persons steppers : ℕ) → ((i : ℕ) → get_or h i 0 < 256) → steppers ≡ mask_below 64 (λ s. stepped_at h s o)
    → bit_and steppers persons ≡ 0 → 0 ≡ mask_below 16 (done_by h persons o)
unfolding done_by stepped_at
none_done h o persons steppers small found none =
    sym
    (mask_none 16 _ (λ p l.
    let word = word_at h (2560 + 128 * o + 8 * p) in
    let step = step_word h o small p in
    let inside : bit_and word steppers ≡ word =
    rw (step, found)
    (bit_subset 64 (mask_below 64 (λ s. step_at h s o p)) _ (mask_lt 64 _) (λ s m b.
    bit_mask_below 64 (λ s. any_below 16 (step_at h s o)) s m
    ∙ some_any 16 (step_at h s o) p l (sym (bit_mask_below 64 (λ s. step_at h s o p) s m) ∙ b))) in
    let nobody : bit_and word persons ≡ 0 =
    ap (λ (n : ℕ). bit_and n persons) (sym inside) ∙ and_assoc word steppers persons ∙ ap (bit_and word) none ∙ and_zero_r word in
    ap not (eq-eqb _ _ nobody)))

pub has_done : (t : Tables) (h r : List ℕ) (persons : ℕ) → ((i : ℕ) → get_or h i 0 < 256) → persons ≡ mask_below 64 (person_declared t)
    → FirstAre 128 128 (λ o. mask_below 16 (done_by h persons o)) r → HasDone t (set_of h) r
has_done t h r persons small known found =
    record {
      size = found.size;
      at = λ on o d. done_set t h small o d persons _ known (found.each o (folder_below t o d));
    }

pub has_next : (t : Tables) (steps dones r : List ℕ) → steps ≡ t.steps
    → FirstAre 128 128 (λ o. mask_below 16 (pipeline_in steps (get_or dones o 0 % 65536))) r
    → (H : Request → Bool) → HasDone t H dones → HasNext t H r
unfolding may_be_next
has_next t steps dones r own found H kept =
    record {
      size = found.size;
      at = λ on o d.
          let is = kept.at on o d in
          let same : get_or dones o 0 % 65536 ≡ mask_below 16 (done t H o) = rw is (mod-eq_of_lt (mask_lt 16 (done t H o))) in
          found.each o (folder_below t o d) ∙ mask_ext 16 _ _ (λ q l. pipeline_in_lem t H o steps _ q own same l);
    }
