-- The entries of a level buffer. Storing an entry changes the two bytes of its person and no other, so every byte is known from the level
-- that each person is to have; two buffers of 128 bytes that have the same level for each person are equal byte for byte.
use Prim.Native.Nat.{ℕ, zero, suc, ◌+◌, ◌*◌, ◌/◌, ◌%◌, ◌≤◌, ◌<◌}
use native.Mathlib.Omega.{arith}
use mathlib.Core.Path.{◌≡◌, refl, sym, ap, ap₂, ◌∙◌}
use mathlib.Core.Logic.{⊎_elim, ◌≢◌}
use mathlib.Core.List.{List}
use lib.Dec.{eqb}
use lib.ListN.{length, get_or, set, length-set}
use lib.Seq.{ext_get_or, get_or-set_same, get_or-set_other}
use borrow.Author.Tests.{eqb-true, eqb-false}
use Rattle.bits.specs.Bounded.{fold_below}
use Rattle.bits.proofs.Booleans.{decide}
use Rattle.level.specs.Levels.{meet_of}
use Rattle.policy.specs.declared.Tables.{Tables}
use Rattle.policy.specs.Tables.{folder_at}
use Rattle.policy.specs.Request.{Request, read, write, start, step}
use Rattle.policy.specs.Levels.{levels_bytes, level_at, with_level_at, first_level, first_levels, met_with, lowered}
use Rattle.policy.specs.Published.{Observes}

-- byte 0 or 1 of a level
unfoldable pub byte_of : ℕ → ℕ → ℕ
byte_of zero level = level % 256
byte_of (suc k) level = level / 256

-- ---- one entry

pub size_with : (l : List ℕ) (s level : ℕ) → length (with_level_at l s level) ≡ length l
unfolding with_level_at
size_with l s level = length-set (set l (2 * s) (level % 256)) (2 * s + 1) (level / 256) ∙ length-set l (2 * s) (level % 256)

-- the bytes of other persons are as they were
pub byte_other : (l : List ℕ) (s level i : ℕ) → i / 2 ≢ s → get_or (with_level_at l s level) i 0 ≡ get_or l i 0
unfolding with_level_at
byte_other l s level i n =
    get_or-set_other (set l (2 * s) (level % 256)) (2 * s + 1) i (level / 256) 0 (λ e. n (omega arith))
    ∙ get_or-set_other l (2 * s) i (level % 256) 0 (λ e. n (omega arith))

-- the person's own are those of the level
pub byte_same : (l : List ℕ) (s level i : ℕ) → 2 * s + 1 < length l → i / 2 ≡ s → get_or (with_level_at l s level) i 0 ≡ byte_of (i % 2) level
unfolding with_level_at byte_of
byte_same l s level i within own =
    ⊎_elim
    (λ a.
    let low : i % 2 ≡ 0 = eqb-true (i % 2) 0 a in
    let at : i ≡ 2 * s = omega arith in
    rw (low, at)
    (get_or-set_other (set l (2 * s) (level % 256)) (2 * s + 1) (2 * s) (level / 256) 0 (λ e. omega arith)
    ∙ get_or-set_same l (2 * s) (level % 256) 0 (omega arith)))
    (λ b.
    let not_low = eqb-false (i % 2) 0 b in
    let high : i % 2 ≡ 1 = omega arith in
    let at : i ≡ 2 * s + 1 = omega arith in
    rw (high, at)
    (get_or-set_same (set l (2 * s) (level % 256)) (2 * s + 1) (level / 256) 0
    (rw (length-set l (2 * s) (level % 256)) within)))
    (decide (eqb (i % 2) 0))

-- a level is its two bytes
level_bytes : (l : List ℕ) (s level : ℕ) → get_or l (2 * s) 0 ≡ byte_of 0 level → get_or l (2 * s + 1) 0 ≡ byte_of 1 level → level_at l s ≡ level
unfolding level_at byte_of
level_bytes l s level low high = rw (low, high) (omega arith)

pub level_same : (l : List ℕ) (s level : ℕ) → 2 * s + 1 < length l → level_at (with_level_at l s level) s ≡ level
level_same l s level within =
    let even : 2 * s % 2 ≡ 0 = omega arith in
    let odd : (2 * s + 1) % 2 ≡ 1 = omega arith in
    level_bytes (with_level_at l s level) s level
    (byte_same l s level (2 * s) within (omega arith) ∙ ap (λ (k : ℕ). byte_of k level) even)
    (byte_same l s level (2 * s + 1) within (omega arith) ∙ ap (λ (k : ℕ). byte_of k level) odd)

-- ---- a buffer by the level of each person

pub record Holding (levels : ℕ → ℕ) (l : List ℕ) : Type 0 where
  pub size : length l ≡ levels_bytes
  pub bytes : (i : ℕ) → i < 128 → get_or l i 0 ≡ byte_of (i % 2) (levels (i / 2))

pub holding_level : (levels : ℕ → ℕ) (l : List ℕ) (s : ℕ) → Holding levels l → s < 64 → level_at l s ≡ levels s
holding_level levels l s h below =
    let even : 2 * s % 2 ≡ 0 = omega arith in
    let odd : (2 * s + 1) % 2 ≡ 1 = omega arith in
    let own : 2 * s / 2 ≡ s = omega arith in
    let own' : (2 * s + 1) / 2 ≡ s = omega arith in
    level_bytes l s (levels s)
    (h.bytes (2 * s) (omega arith) ∙ ap₂ (λ (k u : ℕ). byte_of k (levels u)) even own)
    (h.bytes (2 * s + 1) (omega arith) ∙ ap₂ (λ (k u : ℕ). byte_of k (levels u)) odd own')

pub holding_ext : (levels levels' : ℕ → ℕ) (l : List ℕ) → ((s : ℕ) → s < 64 → levels s ≡ levels' s) → Holding levels l
    → Holding levels' l
holding_ext levels levels' l same h =
    record { size = h.size; bytes = λ i below. h.bytes i below ∙ ap (byte_of (i % 2)) (same (i / 2) (omega arith)) }

-- the buffer is known from the levels
pub holding_one : (levels : ℕ → ℕ) (l l' : List ℕ) → Holding levels l → Holding levels l' → l ≡ l'
holding_one levels l l' h h' =
    ext_get_or 0 l l' (h.size ∙ sym h'.size) (λ i below.
    let within : i < 128 = rw h.size at below in
    h.bytes i within ∙ sym (h'.bytes i within))

-- one entry more
pub holding_with : (levels levels' : ℕ → ℕ) (l : List ℕ) (s : ℕ) → Holding levels l → s < 64
    → ((u : ℕ) → u ≢ s → levels' u ≡ levels u) → Holding levels' (with_level_at l s (levels' s))
holding_with levels levels' l s h below others =
    record {
      size = size_with l s (levels' s) ∙ h.size;
      bytes = λ i within.
          ⊎_elim
          (λ a.
          let own = eqb-true (i / 2) s a in
          let size = h.size in
          byte_same l s (levels' s) i (omega arith) own ∙ ap (λ (u : ℕ). byte_of (i % 2) (levels' u)) (sym own))
          (λ b.
          let other = eqb-false (i / 2) s b in
          byte_other l s (levels' s) i other ∙ h.bytes i within ∙ ap (byte_of (i % 2)) (sym (others (i / 2) other)))
          (decide (eqb (i / 2) s));
    }

-- ---- the first levels

module _ (levels : ℕ → ℕ) (l : List ℕ) (size : length l ≡ levels_bytes) where
  stored : ℕ → List ℕ
  stored n = fold_below n (λ s m. with_level_at m s (levels s)) l

  stored_size : (n : ℕ) → length (stored n) ≡ levels_bytes
  unfolding stored fold_below
  stored_size zero = size
  stored_size (suc n) = size_with (stored n) n (levels n) ∙ stored_size n

  stored_bytes : (n : ℕ) → n ≤ 64 → (i : ℕ) → i < 2 * n → get_or (stored n) i 0 ≡ byte_of (i % 2) (levels (i / 2))
  unfolding stored fold_below
  stored_bytes zero most i below = let z : ⊥ = omega arith in absurd z
  stored_bytes (suc n) most i below =
      ⊎_elim
      (λ a.
      let own = eqb-true (i / 2) n a in
      let whole = stored_size n in
      byte_same (stored n) n (levels n) i (omega arith) own ∙ ap (λ (u : ℕ). byte_of (i % 2) (levels u)) (sym own))
      (λ b.
      let other = eqb-false (i / 2) n b in
      byte_other (stored n) n (levels n) i other ∙ stored_bytes n (omega arith) i (omega arith))
      (decide (eqb (i / 2) n))

  holding_stored : Holding levels (stored 64)
  holding_stored = record { size = stored_size 64; bytes = λ i below. stored_bytes 64 (omega arith) i (omega arith) }

pub holding_first : (t : Tables) (l : List ℕ) → length l ≡ levels_bytes → Holding (first_level t) (first_levels t l)
unfolding first_levels stored
holding_first t l size = holding_stored (first_level t) l size

-- ---- after a granted request

pub size_lowered : (t : Tables) (l : List ℕ) (r : Request) → length (lowered t l r) ≡ length l
unfolding lowered met_with
size_lowered t l (read s o) = size_with l s _
size_lowered t l (write s o) = refl
size_lowered t l (start s u) = refl
size_lowered t l (step s p o) = size_with l s _

pub lowered_own : (t : Tables) (l : List ℕ) (r : Request) (s o : ℕ) → length l ≡ levels_bytes → s < 64 → Observes r s o
    → level_at (lowered t l r) s ≡ meet_of 12 (level_at l s) (folder_at t o).level.0
unfolding lowered met_with
lowered_own t l (read s' o') s o size below w = rw (w.0, w.1) (level_same l s _ (omega arith))
lowered_own t l (write s' o') s o size below w = absurd w
lowered_own t l (start s' u) s o size below w = absurd w
lowered_own t l (step s' p o') s o size below w = rw (w.0, w.1) (level_same l s _ (omega arith))

pub lowered_other : (t : Tables) (l : List ℕ) (r : Request) (i : ℕ) → ((o : ℕ) → Observes r (i / 2) o → ⊥)
    → get_or (lowered t l r) i 0 ≡ get_or l i 0
unfolding lowered met_with
lowered_other t l (read s o) i other = byte_other l s _ i (λ e. other o (sym e, refl))
lowered_other t l (write s o) i other = refl
lowered_other t l (start s u) i other = refl
lowered_other t l (step s p o) i other = byte_other l s _ i (λ e. other o (sym e, refl))

-- the entry of a person whose request it is not
pub level_other : (t : Tables) (l : List ℕ) (r : Request) (s : ℕ) → ((o : ℕ) → Observes r s o → ⊥) → level_at (lowered t l r) s ≡ level_at l s
unfolding level_at
level_other t l r s other =
    let own : 2 * s / 2 ≡ s = omega arith in
    let own' : (2 * s + 1) / 2 ≡ s = omega arith in
    ap₂ (λ (low high : ℕ). low + 256 * high)
    (lowered_other t l r (2 * s) (λ o w. other o (rw own at w)))
    (lowered_other t l r (2 * s + 1) (λ o w. other o (rw own' at w)))
