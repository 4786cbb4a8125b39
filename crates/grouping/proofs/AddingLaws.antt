-- Adding to sets one after another: a store at one number joins a word to that set and changes no other, so what was added after some turns
-- is what one of the turns added.
use Prim.Native.Nat.{ℕ, zero, suc, ◌+◌, ◌*◌, ◌≤◌, ◌<◌}
use native.Mathlib.Omega.{arith}
use mathlib.Core.Path.{◌≡◌, refl, sym, ap, ap₂, ◌∙◌}
use mathlib.Core.Logic.{⊎_elim}
use mathlib.Core.Bool.{Bool, true, false, ◌&&◌, ◌||◌, or_comm, or_assoc}
use mathlib.Core.List.{List}
use lib.Bits.{bit_or}
use lib.Dec.{eqb, ltb}
use lib.ListN.{length, get_or, set, length-set}
use lib.Seq.{get_or-set_same, get_or-set_other}
use borrow.Author.Tests.{eqb-true, eqb-false, lt-ltb, le-ltb}
use Rattle.bits.specs.Bits.{bit}
use Rattle.bits.specs.Bounded.{any_below}
use Rattle.bits.proofs.BitLaws.{bit_or_lem}
use Rattle.bits.proofs.Booleans.{decide}
use Rattle.bits.proofs.Bounds.{any_start, any_more, any_ext}
use Rattle.bits.proofs.Masks.{bit_mask_below}
use Rattle.history.specs.Words.{word_at}
use Rattle.recorded.specs.Recorded.{step_at}
use Rattle.recorded.proofs.Steppers.{step_word}
use Rattle.grouping.specs.Adding.{Added, grouped, applied_to, applied_in}

-- ---- one store, and one after another

pub added_ext : {p q : ℕ → ℕ → Bool} {a b : List ℕ} → Added p a b → ((x s : ℕ) → s < 64 → p x s ≡ q x s) → Added q a b
added_ext {p} {q} {a} {b} added e =
    record { size = added.size; bits = λ x s l. added.bits x s l ∙ ap (λ (t : Bool). t || bit (get_or a x 0) s) (e x s l) }

pub added_both : {p q : ℕ → ℕ → Bool} {a b c : List ℕ} → Added p a b → Added q b c → Added (λ x s. q x s || p x s) a c
added_both {p} {q} {a} {b} {c} first second =
    record {
      size = second.size ∙ first.size;
      bits = λ x s l.
          second.bits x s l ∙ ap (λ (t : Bool). q x s || t) (first.bits x s l) ∙ sym (or_assoc (q x s) (p x s) (bit (get_or a x 0) s));
    }

-- a word is joined to set g
pub added_one : (a : List ℕ) (g word : ℕ) {v : ℕ} → g < length a → v ≡ bit_or (get_or a g 0) word
    → Added (λ x s. eqb g x && bit word s) a (set a g v)
added_one a g word {v} within e =
    record { size = length-set a g v; bits = λ x s l. ⊎_elim (here x s) (other x s) (decide (eqb g x)) }
  where
    here : (x s : ℕ) → eqb g x ≡ true → bit (get_or (set a g v) x 0) s ≡ (eqb g x && bit word s) || bit (get_or a x 0) s
    here x s i =
        let same = eqb-true g x i in
        ap (λ (k : ℕ). bit (get_or (set a g v) k 0) s) (sym same)
        ∙ ap (λ (n : ℕ). bit n s) (get_or-set_same a g v 0 within ∙ e)
        ∙ bit_or_lem (get_or a g 0) word s
        ∙ or_comm (bit (get_or a g 0) s) (bit word s)
        ∙ ap₂ (λ (t : Bool) (k : ℕ). (t && bit word s) || bit (get_or a k 0) s) (sym i) same

    other : (x s : ℕ) → eqb g x ≡ false → bit (get_or (set a g v) x 0) s ≡ (eqb g x && bit word s) || bit (get_or a x 0) s
    other x s i =
        let differs = eqb-false g x i in
        ap (λ (n : ℕ). bit n s) (get_or-set_other a g x v 0 (λ k. differs (sym k)))
        ∙ ap (λ (t : Bool). (t && bit word s) || bit (get_or a x 0) s) (sym i)

-- ---- turns

module _ (p : ℕ → ℕ → ℕ → Bool) where
  pub turns_none : (a : List ℕ) → Added (λ x s. any_below 0 (p x s)) a a
  turns_none a = record { size = refl; bits = λ x s l. sym (ap (λ (t : Bool). t || bit (get_or a x 0) s) (any_start (p x s))) }

  -- what one more turn adds
  pub turns_more : (n : ℕ) {q : ℕ → ℕ → Bool} {a b c : List ℕ} → Added (λ x s. any_below n (p x s)) a b → Added q b c
      → ((x s : ℕ) → s < 64 → q x s ≡ p x s n) → Added (λ x s. any_below (n + 1) (p x s)) a c
  turns_more n {q} first second e =
      added_ext (added_both first second) (λ x s l. ap (λ (t : Bool). t || any_below n (p x s)) (e x s l) ∙ sym (any_more n (p x s)))

  -- a turn that adds nothing
  pub turns_same : (n : ℕ) {a b : List ℕ} → Added (λ x s. any_below n (p x s)) a b → ((x s : ℕ) → s < 64 → p x s n ≡ false)
      → Added (λ x s. any_below (n + 1) (p x s)) a b
  turns_same n first e =
      added_ext first (λ x s l. sym (any_more n (p x s) ∙ ap (λ (t : Bool). t || any_below n (p x s)) (e x s l)))

-- ---- two halves

pub any_two : (n m : ℕ) (p : ℕ → Bool) → any_below (n + m) p ≡ any_below m (λ i. p (n + i)) || any_below n p
unfolding any_below
any_two n zero p = let all : n + 0 ≡ n = omega arith in ap (λ (k : ℕ). any_below k p) all
any_two n (suc m) p =
    let next : n + suc m ≡ suc (n + m) = omega arith in
    ap (λ (k : ℕ). any_below k p) next ∙ ap (λ (t : Bool). p (n + m) || t) (any_two n m p)
    ∙ sym (or_assoc (p (n + m)) (any_below m (λ i. p (n + i))) (any_below n p))

-- ---- words joined to the sets of their groups

module _ (groups : List ℕ) (first above : ℕ) (words : List ℕ) where
  in_group : ℕ → ℕ → ℕ → Bool
  in_group x s i = eqb (above + get_or groups (first + i) 0) x && bit (get_or words i 0) s

  pub grouped_none : (a : List ℕ) → Added (grouped groups first above words 0) a a
  unfolding grouped in_group
  grouped_none a = turns_none in_group a

  pub grouped_more : (i : ℕ) {a b : List ℕ} {g v : ℕ} → Added (grouped groups first above words i) a b
      → g ≡ above + get_or groups (first + i) 0
      → g < length b → v ≡ bit_or (get_or b g 0) (get_or words i 0) → Added (grouped groups first above words (i + 1)) a (set b g v)
  unfolding grouped in_group
  grouped_more i {a} {b} {g} before own within e =
      turns_more in_group i before (added_one b g (get_or words i 0) within e)
      (λ x s l. ap (λ (k : ℕ). eqb k x && bit (get_or words i 0) s) own)

-- the words of two halves, of which those of folder o have person s where q does
pub both_halves : (groups : List ℕ) (above : ℕ) (low high : List ℕ) (q : ℕ → ℕ → Bool) {a b c : List ℕ} → Added (grouped groups 0 above
    low 64) a b
    → Added (grouped groups 64 above high 64) b c → ((i s : ℕ) → i < 64 → s < 64 → bit (get_or low i 0) s ≡ q s i)
    → ((i s : ℕ) → i < 64 → s < 64 → bit (get_or high i 0) s ≡ q s (64 + i))
    → Added (λ x s. any_below 128 (λ o. eqb (above + get_or groups o 0) x && q s o)) a c
unfolding grouped
both_halves groups above low high q first second here there =
    added_ext (added_both first second) (λ x s l.
    ap₂ ◌||◌
    (any_ext 64 _ _ (λ i m. ap (λ (t : Bool). eqb (above + get_or groups (64 + i) 0) x && t) (there i s m l)))
    (any_ext 64 _ _ (λ i m. ap₂ (λ (k : ℕ) (t : Bool). eqb (above + get_or groups k 0) x && t) (omega arith) (here i s m l)))
    ∙ sym (any_two 64 64 (λ o. eqb (above + get_or groups o 0) x && q s o)))

-- ---- the persons who applied steps

module _ (h : List ℕ) (small : (i : ℕ) → get_or h i 0 < 256) where
  pub applied_more : (o p : ℕ) {a b : List ℕ} {v word : ℕ} → Added (applied_to h o p) a b → 48 + p < length b
      → word ≡ word_at h (2560 + 128 * o + 8 * p) → v ≡ bit_or (get_or b (48 + p) 0) word
      → Added (applied_to h o (p + 1)) a (set b (48 + p) v)
  unfolding applied_to
  applied_more o p {a} {b} {v} {word} before within found e =
      turns_more (λ x s p. eqb (48 + p) x && step_at h s o p) p before (added_one b (48 + p) word within e)
      (λ x s l.
      ap (λ (t : Bool). eqb (48 + p) x && t)
      (ap (λ (n : ℕ). bit n s) (found ∙ step_word h o small p) ∙ bit_mask_below 64 (λ s. step_at h s o p) s l))

pub applied_none : (h : List ℕ) (o : ℕ) (a : List ℕ) → Added (applied_to h o 0) a a
unfolding applied_to
applied_none h o a = turns_none (λ x s p. eqb (48 + p) x && step_at h s o p) a

module _ (groups h : List ℕ) where
  on_folder : ℕ → ℕ → ℕ → Bool
  on_folder x s o = ltb (get_or groups o 0) 64 && applied_to h o 16 x s

  pub folders_none : (a : List ℕ) → Added (applied_in groups h 0) a a
  unfolding applied_in on_folder
  folders_none a = turns_none on_folder a

  -- a folder that has a group, and one that has none
  pub folders_more : (o : ℕ) {a b c : List ℕ} → Added (applied_in groups h o) a b → get_or groups o 0 < 64 → Added (applied_to h o 16) b c
      → Added (applied_in groups h (o + 1)) a c
  unfolding applied_in on_folder
  folders_more o before l here =
      turns_more on_folder o before here (λ x s m. sym (ap (λ (t : Bool). t && applied_to h o 16 x s) (lt-ltb _ 64 l)))

  pub folders_same : (o : ℕ) {a b : List ℕ} → Added (applied_in groups h o) a b → 64 ≤ get_or groups o 0
      → Added (applied_in groups h (o + 1)) a b
  unfolding applied_in on_folder
  folders_same o before l =
      turns_same on_folder o before (λ x s m. ap (λ (t : Bool). t && applied_to h o 16 x s) (le-ltb _ 64 l))
