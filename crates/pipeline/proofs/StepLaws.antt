-- The word at a step's place in a history has a bit for each person who did the step, so the sets that the code gathers are those of
-- the definitions: the declared persons who did a step, the steps done on a folder, and the steps that lead to another.
use Prim.Native.Nat.{ℕ, zero, suc, ◌+◌, ◌*◌, ◌%◌, ◌<◌}
use native.Mathlib.Nat.{lt_of_le_of_lt}
use native.Mathlib.Omega.{arith}
use mathlib.Core.Path.{◌≡◌, refl, sym, ap, ap₂, ◌∙◌}
use mathlib.Core.Bool.{Bool, true, not, ◌&&◌, ◌||◌, not-not, and_comm, or_comm, or_assoc}
use Rattle.std.specs.List.{list_any, range_with_len}
use mathlib.Core.List.{List}
use lib.Dec.{eqb}
use borrow.Author.Tests.{ne_eqb}
use lib.Bits.{bit_and, and_le_r}
use lib.ListN.{get_or}
use Rattle.bits.specs.Bits.{bit, mask_below}
use Rattle.bits.specs.Bounded.{any_below}
use Rattle.bits.proofs.Booleans.{and_left, and_right, and_both, bool_ext}
use Rattle.bits.proofs.Bounds.{any_ext}
use Rattle.bits.proofs.BitLaws.{bit_and_lem}
use Rattle.bits.proofs.Masks.{mask_lt, mask_ext, bit_mask_below, empty_none}
use Rattle.policy.specs.declared.Tables.{Tables}
use Rattle.policy.specs.Tables.{enabled_by, enables, person_declared, folder_declared}
use Rattle.policy.specs.History.{bit_at}
use Rattle.policy.specs.Request.{Request, step, index, has_place, set_of}
use Rattle.policy.specs.Rules.{did, done, leads_to, pipeline_step}
use Rattle.policy.proofs.Requests.{declared_person, step_declared, declared_place}
use Rattle.history.specs.Words.{word_at}
use Rattle.history.proofs.WordLaws.{word_bit}
use Rattle.pipeline.specs.Steps.{done_by, leads, leads_among, pipeline_in}

-- ---- numbers asked one after another

-- counted from the lowest number
any_low : (n : ℕ) (p : ℕ → Bool) → p 0 || any_below n (λ k. p (suc k)) ≡ any_below (suc n) p
unfolding any_below
any_low zero p = refl
any_low (suc n) p =
    let rest = any_below n (λ k. p (suc k)) in
    sym (or_assoc (p 0) (p (suc n)) rest) ∙ ap (λ (b : Bool). b || rest) (or_comm (p 0) (p (suc n)))
    ∙ or_assoc (p (suc n)) (p 0) rest ∙ ap (λ (b : Bool). p (suc n) || b) (any_low n p)

any_from : (p : ℕ → Bool) (a n : ℕ) → list_any p (range_with_len a n) ≡ any_below n (λ k. p (a + k))
unfolding any_below
any_from p a zero = refl
any_from p a (suc n) =
    ap (λ (b : Bool). p a || b)
    (any_from p (a + 1) n ∙ any_ext n (λ k. p (a + 1 + k)) (λ k. p (a + suc k)) (λ k l. ap p (omega arith)))
    ∙ ap (λ (m : ℕ). p m || any_below n (λ k. p (a + suc k))) (omega arith) ∙ any_low n (λ k. p (a + k))

-- `any` over the numbers below n
pub any_listed : (p : ℕ → Bool) (n : ℕ) → list_any p (range_with_len 0 n) ≡ any_below n p
any_listed p n = any_from p 0 n ∙ any_ext n (λ k. p (0 + k)) p (λ k l. ap p (omega arith))

-- ---- the steps done

module _ (t : Tables) (h : List ℕ) (small : (i : ℕ) → get_or h i 0 < 256) (o : ℕ) (known : folder_declared t o ≡ true) where
  -- the bits at a step's place are those of its requests
  place_bit : (p s : ℕ) → s < 64 → bit (word_at h (2560 + 128 * o + 8 * p)) s ≡ bit_at h (index (step s p o))
  unfolding index
  place_bit p s l =
      let same : 8 * (2560 + 128 * o + 8 * p) + s ≡ 20480 + 64 * (16 * o + p) + s = omega arith in
      word_bit h (2560 + 128 * o + 8 * p) s small l ∙ ap (bit_at h) same

  did_bit : (p s : ℕ) → p < 16 → s < 64
      → bit_at h (index (step s p o)) && person_declared t s ≡ did t (set_of h) (step s p o)
  unfolding did set_of
  did_bit p s lp ls =
      bool_ext _ _
      (λ e.
      let d = step_declared t s p o (and_right (bit_at h (index (step s p o))) _ e) lp known in
      and_both _ _ (and_both _ _ (declared_place t (step s p o) d) (and_left (bit_at h (index (step s p o))) _ e)) d)
      (λ e.
      let d = and_right (has_place (step s p o) && bit_at h (index (step s p o))) _ e in
      let b = and_right (has_place (step s p o)) _ (and_left (has_place (step s p o) && bit_at h (index (step s p o))) _ e) in
      and_both _ _ b (declared_person t s p o d))

  done_by_lem : (p : ℕ) → p < 16 → done_by h (mask_below 64 (person_declared t)) o p ≡ done t (set_of h) o p
  unfolding done_by done
  done_by_lem p l =
      let persons = mask_below 64 (person_declared t) in
      let word = word_at h (2560 + 128 * o + 8 * p) in
      ap not (empty_none 64 (bit_and word persons) (lt_of_le_of_lt (and_le_r word persons) (mask_lt 64 (person_declared t))))
      ∙ not-not (any_below 64 (bit (bit_and word persons)))
      ∙ any_ext 64 (bit (bit_and word persons)) (λ s. did t (set_of h) (step s p o)) (λ s ls.
      bit_and_lem word persons s ∙ ap₂ ◌&&◌ (place_bit p s ls) (bit_mask_below 64 (person_declared t) s ls) ∙ did_bit p s l ls)

  -- the set that the code gathers from the declared persons is that of the steps done
  pub done_set : (persons steps : ℕ) → persons ≡ mask_below 64 (person_declared t) → steps ≡ mask_below 16 (done_by h persons o)
      → steps ≡ mask_below 16 (done t (set_of h) o)
  done_set persons steps e f =
      f ∙ ap (λ (n : ℕ). mask_below 16 (done_by h n o)) e
      ∙ mask_ext 16 (done_by h (mask_below 64 (person_declared t)) o) (done t (set_of h) o) done_by_lem

-- ---- the step rule

module _ (t : Tables) (H : Request → Bool) (o : ℕ) where
  -- no step of the set is done: the set has none in common with those done
  disjoint : (enabled : ℕ)
      → eqb (bit_and enabled (mask_below 16 (done t H o))) 0 ≡ not (any_below 16 (λ d. done t H o d && bit enabled d))
  disjoint enabled =
      let steps = mask_below 16 (done t H o) in
      empty_none 16 (bit_and enabled steps) (lt_of_le_of_lt (and_le_r enabled steps) (mask_lt 16 (done t H o)))
      ∙ ap not
      (any_ext 16 (bit (bit_and enabled steps)) (λ d. done t H o d && bit enabled d) (λ d l.
      bit_and_lem enabled steps d ∙ ap (λ (b : Bool). bit enabled d && b) (bit_mask_below 16 (done t H o) d l)
      ∙ and_comm (bit enabled d) (done t H o d)))

  leads_is : (q p : ℕ) → p < 16 → q < 16 → leads_among t.steps (mask_below 16 (done t H o)) q p ≡ leads_to t H o q p
  unfolding leads_among leads leads_to enables
  leads_is q p lp lq =
      let own : p % 16 ≡ p = omega arith in
      let next : q % 16 ≡ q = omega arith in
      rw (own, next, bit_mask_below 16 (done t H o) p lp, disjoint (enabled_by t p))

  -- the rule, from the set of the steps done
  pub pipeline_in_lem : (steps : List ℕ) (set q : ℕ) → steps ≡ t.steps → set ≡ mask_below 16 (done t H o) → q < 16
      → pipeline_in steps set q ≡ pipeline_step t H q o
  unfolding pipeline_step pipeline_in
  pipeline_in_lem steps set zero own e l =
      ap (λ (d : ℕ). eqb d 0) e
      ∙ empty_none 16 (mask_below 16 (done t H o)) (mask_lt 16 (done t H o))
      ∙ ap not (any_ext 16 (bit (mask_below 16 (done t H o))) (done t H o) (bit_mask_below 16 (done t H o)))
  pipeline_in_lem steps set (suc q) own e l =
      rw (own, e, ne_eqb (suc q) 0 (omega arith))
      (any_ext 16 (leads_among t.steps (mask_below 16 (done t H o)) (suc q)) (leads_to t H o (suc q)) (λ p i. leads_is (suc q) p i l))
