-- What was gathered for all persons gives what one person did: the person's bit in the set of a folder says whether the person stepped on
-- it. The sets are stored one after another, and no store changes an earlier one.
-- The steps of one person alone are joined folder by folder, and a folder on which the person did not step adds none.
use Prim.Native.Nat.{ℕ, ◌+◌, ◌≤◌, ◌<◌}
use native.Mathlib.Nat.{eq-or-lt_of_le}
use native.Mathlib.Omega.{arith}
use mathlib.Core.Path.{◌≡◌, refl, sym, ap, ◌∙◌}
use mathlib.Core.Logic.{⊎_elim}
use mathlib.Core.Bool.{Bool, true, false, cond, ◌&&◌, ◌||◌, and-false}
use mathlib.Core.List.{List}
use lib.Bits.{bit_or}
use lib.ListN.{length, get_or, set, length-set}
use lib.Seq.{get_or-set_same, get_or-set_other}
use Rattle.bits.specs.Bits.{bit, with_bit, with_bit_if, mask_below}
use Rattle.bits.specs.Bounded.{any_below, fold_below}
use Rattle.bits.proofs.Booleans.{by_test}
use Rattle.bits.proofs.Bounds.{any_more, any_some, some_any, none_at}
use Rattle.bits.proofs.Masks.{bit_mask_below, mask_ext, mask_none}
use Rattle.policy.specs.declared.Folder.{Folder}
use Rattle.policy.specs.declared.Tables.{Tables}
use Rattle.policy.specs.Tables.{folder_at}
use Rattle.recorded.specs.Folders.{folders_of}
use Rattle.recorded.specs.Gathering.{FirstAre, SteppersOf, applied_on, applied_at, applied_below, applied_after}
use Rattle.recorded.specs.Recorded.{step_at, stepped_at}
use Rattle.recorded.specs.Visits.{Leads}
use Rattle.recorded.proofs.FolderSets.{folders_ext}
use Rattle.recorded.proofs.Joined.{join_none, join_more}
use Rattle.recorded.proofs.VisitLaws.{visit_start}

-- ---- sets stored one after another

pub stored_none : (width : ℕ) (f : ℕ → ℕ) (all : List ℕ) → length all ≡ width → FirstAre width 0 f all
stored_none width f all e = record { size = e; each = λ k l. let z : ⊥ = omega arith in absurd z }

pub stored_more : (width n : ℕ) (f : ℕ → ℕ) (all : List ℕ) (x : ℕ) → FirstAre width n f all → n < width → x ≡ f n
    → FirstAre width (n + 1) f (set all n x)
stored_more width n f all x stored room e =
    record { size = length-set all n x ∙ stored.size; each = λ k l. ⊎_elim (last k) (λ b. earlier k b) (eq-or-lt_of_le (omega arith)) }
  where
    within : n < length all
    within = rw stored.size room

    last : (k : ℕ) → k ≡ n → get_or (set all n x) k 0 ≡ f k
    last k i = rw (i, get_or-set_same all n x 0 within) e

    earlier : (k : ℕ) → k < n → get_or (set all n x) k 0 ≡ f k
    earlier k l = get_or-set_other all n k x 0 (λ i. let z : ⊥ = omega (arith, i) in z) ∙ stored.each k l

-- ---- one person

pub stepped_among : (h all : List ℕ) (s : ℕ) → SteppersOf h all → s < 64
    → folders_of (λ o. bit (get_or all o 0) s) ≡ folders_of (stepped_at h s)
stepped_among h all s gathered l =
    folders_ext _ _ (λ o m.
    ap (λ (n : ℕ). bit n s) (gathered.each o m) ∙ bit_mask_below 64 (λ s. stepped_at h s o) s l)

-- ---- the steps that one person applied, one folder after another

-- to a folder on which the person did not step, none
pub unstepped_on : (e : Folder) (h : List ℕ) (s o : ℕ) → stepped_at h s o ≡ false → 0 ≡ mask_below 16 (applied_on e h s o)
unfolding applied_on stepped_at
unstepped_on e h s o none =
    sym
    (mask_none 16 _ (λ p l. ap (λ (b : Bool). e.declared && b) (none_at 16 (step_at h s o) none p l) ∙ and-false e.declared))

-- the set of all steps
pub sixteen : 65535 ≡ mask_below 16 (λ p. true)
unfolding mask_below fold_below with_bit_if with_bit
sixteen = refl

module _ (t : Tables) (h : List ℕ) (s : ℕ) where
  pub applied_start : 0 ≡ applied_below t h s 0
  unfolding applied_below
  applied_start = join_none 16 (λ p o. applied_on (folder_at t o) h s o p)

  -- one folder more
  pub applied_more : (o : ℕ) {steps here : ℕ} → steps ≡ applied_below t h s o → here ≡ mask_below 16 (applied_on (folder_at t o) h s o)
      → bit_or steps here ≡ applied_below t h s (o + 1)
  unfolding applied_below
  applied_more o = join_more 16 (λ p o. applied_on (folder_at t o) h s o p) o

  -- a folder on which the person did not step changes nothing
  unstepped : (o : ℕ) → stepped_at h s o ≡ false → applied_below t h s o ≡ applied_below t h s (o + 1)
  unfolding applied_below applied_on stepped_at
  unstepped o none =
      mask_ext 16 _ _ (λ p l.
      sym
      (any_more o (λ o. applied_on (folder_at t o) h s o p)
      ∙ ap (λ (b : Bool). (folder_at t o).declared && b || any_below o (λ o. applied_on (folder_at t o) h s o p))
      (none_at 16 (step_at h s o) none p l)
      ∙ ap (λ (b : Bool). b || any_below o (λ o. applied_on (folder_at t o) h s o p)) (and-false (folder_at t o).declared)))

  -- a turn of the pass: only a folder on which the person stepped is visited
  applied_step : (o : ℕ) → o < 128
      → cond (stepped_at h s o) (applied_after t h s o (applied_below t h s o)) (applied_below t h s o) ≡ applied_below t h s (o + 1)
  unfolding applied_below applied_after
  applied_step o l =
      by_test (λ (n : ℕ). n ≡ applied_below t h s (o + 1)) (stepped_at h s o) _ _
      (λ y. join_more 16 (λ p o. applied_on (folder_at t o) h s o p) o refl refl) (unstepped o)

  -- the folders of a half on which the person stepped lead to the steps up to its last folder
  pub applied_half : (first : ℕ) {set before : ℕ} → first + 64 ≤ 128 → set ≡ mask_below 64 (λ i. stepped_at h s (first + i))
      → before ≡ applied_below t h s first → Leads (λ i. applied_after t h s (first + i)) (applied_below t h s (first + 64)) set before
  applied_half first = visit_start (applied_after t h s) (applied_below t h s) (stepped_at h s) applied_step first

  -- where the folders below n have all steps, so have all folders
  pub all_found : (n : ℕ) → n ≤ 128 → applied_below t h s n ≡ 65535 → 65535 ≡ mask_below 16 (applied_at t h s)
  unfolding applied_below applied_at
  all_found n within e =
      sixteen
      ∙ mask_ext 16 (λ p. true) _ (λ p l.
      let test : ℕ → Bool = λ o. applied_on (folder_at t o) h s o p in
      let found : any_below n test ≡ true =
      sym (bit_mask_below 16 (λ p. any_below n (λ o. applied_on (folder_at t o) h s o p)) p l)
      ∙ ap (λ (m : ℕ). bit m p) (e ∙ sixteen) ∙ bit_mask_below 16 (λ p. true) p l in
      let (o, m, w) = any_some n test found in
      sym (some_any 128 test o (omega arith) w))

  pub applied_all : applied_below t h s 128 ≡ mask_below 16 (applied_at t h s)
  unfolding applied_below applied_at
  applied_all = refl
