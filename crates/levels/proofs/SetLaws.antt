-- The levels of a run as sets of bits: the sets of persons and folders together are those of the run, one "and" keeps them so after a
-- granted request, and a buffer is known from the sets of its levels, since each level gives its two bytes.
use Prim.Native.Nat.{ℕ, zero, suc, ◌+◌, ◌*◌, ◌/◌, ◌%◌, ◌<◌}
use native.Mathlib.Omega.{arith}
use mathlib.Core.Path.{◌≡◌, sym, ap, ap₂, ◌∙◌}
use mathlib.Core.Logic.{⊎_elim}
use mathlib.Core.Bool.{Bool, true, false, not}
use mathlib.Core.List.{List}
use lib.Bits.{bit_and}
use lib.Dec.{eqb}
use lib.ListN.{length, get_or, set, length-set}
use lib.Seq.{ext_get_or, get_or-set_same, get_or-set_other}
use borrow.Author.Tests.{eqb-true, eqb-false}
use Rattle.bits.specs.Filling.{Filled}
use Rattle.bits.proofs.Booleans.{decide}
use Rattle.level.specs.Levels.{meet_of}
use Rattle.level.specs.Sets.{level_set}
use Rattle.level.proofs.LevelLaws.{meet_lt}
use Rattle.level.proofs.SetLaws.{meet}
use Rattle.policy.specs.declared.Tables.{Tables}
use Rattle.policy.specs.Tables.{person_at, folder_at}
use Rattle.policy.specs.Request.{read}
use Rattle.policy.specs.Levels.{levels_bytes, level_at, with_level_at, met_with, lowered}
use Rattle.policy.proofs.LevelBytes.{byte_of, size_with, byte_other, byte_same, level_same, level_other}
use Rattle.levels.specs.Sets.{person_set, folder_set, LevelSets, LevelBuffer, HoldsLevels}

-- ---- gathered

pub person_set_lem : (t : Tables) (l : List ℕ) (s : ℕ) {x level : ℕ} → x ≡ level_set level (not (person_at t s).declared) → level ≡ level_at l s
    → x ≡ person_set t l s
person_set_lem t l s made entry = rw (← entry) made

pub gathered : (t : Tables) (l zeros persons sets : List ℕ) → length zeros ≡ 192 → LevelBuffer l
    → Filled 0 64 (λ s x. x ≡ person_set t l s) zeros persons
    → Filled 64 128 (λ o x. (x ≡ folder_set t o) × ((folder_at t o).level.0 < 65536)) persons sets → LevelSets t l sets
gathered t l zeros persons sets size buffer first second =
    record {
      buffer = buffer;
      size = second.size ∙ first.size ∙ size;
      persons = λ s below.
          let place : 0 + s ≡ s = omega arith in
          second.kept s below ∙ rw place at (first.here s below);
      folders = λ o below. (second.here o below).0;
      levels = λ o below. (second.here o below).1;
    }

-- ---- a level buffer

pub level_lt : (l : List ℕ) (s : ℕ) → LevelBuffer l → level_at l s < 65536
unfolding level_at
level_lt l s h = omega (arith, h.bytes (2 * s), h.bytes (2 * s + 1))

-- a byte of the buffer is that of its person's level
pub own_byte : (l : List ℕ) (i : ℕ) → LevelBuffer l → byte_of (i % 2) (level_at l (i / 2)) ≡ get_or l i 0
unfolding byte_of level_at
own_byte l i h =
    ⊎_elim
    (λ a.
    let low : i % 2 ≡ 0 = eqb-true (i % 2) 0 a in
    let at : 2 * (i / 2) ≡ i = omega arith in
    rw (low, at) (omega (arith, h.bytes i)))
    (λ b.
    let not_low = eqb-false (i % 2) 0 b in
    let high : i % 2 ≡ 1 = omega arith in
    let at : 2 * (i / 2) + 1 ≡ i = omega arith in
    rw (high, at) (omega (arith, h.bytes (2 * (i / 2)))))
    (decide (eqb (i % 2) 0))

-- ---- stored

abbrev pub SameBelow : ℕ → List ℕ → List ℕ → Type 0
SameBelow s l m = (i : ℕ) → i < 2 * s → get_or l i 0 ≡ get_or m i 0

pub store_more : (s : ℕ) (l m sets : List ℕ) {level : ℕ} → s < 64 → length l ≡ levels_bytes → LevelBuffer m → HoldsLevels sets m
    → ((a : ℕ) (mark : Bool) → a < 65536 → get_or sets s 0 ≡ level_set a mark → level ≡ a) → SameBelow s l m
    → SameBelow (s + 1) (with_level_at l s level) m
store_more s l m sets {level} within size buffer holds answers before i below =
    ⊎_elim
    (λ a.
    let own = eqb-true (i / 2) s a in
    let (mark, is) = holds.persons s within in
    let same : level ≡ level_at m s = answers (level_at m s) mark (level_lt m s buffer) is in
    byte_same l s level i (omega arith) own ∙ ap (byte_of (i % 2)) (same ∙ ap (level_at m) (sym own)) ∙ own_byte m i buffer)
    (λ b.
    let other = eqb-false (i / 2) s b in
    byte_other l s level i other ∙ before i (omega arith))
    (decide (eqb (i / 2) s))

pub stored_whole : (l m : List ℕ) → length l ≡ levels_bytes → LevelBuffer m → SameBelow 64 l m → l ≡ m
stored_whole l m size buffer same =
    ext_get_or 0 l m (size ∙ sym buffer.size) (λ i below. same i (let b : i < 128 = rw size at below in omega arith))

-- ---- during a run

pub sets_held : (t : Tables) (l sets : List ℕ) → LevelSets t l sets → HoldsLevels sets l
sets_held t l sets h = record { persons = λ s below. (not (person_at t s).declared, h.persons s below) }

byte_lt : (k level : ℕ) → level < 65536 → byte_of k level < 256
unfolding byte_of
byte_lt zero level most = omega arith
byte_lt (suc k) level most = omega arith

-- after a level of 16 bits is stored
pub buffer_with : (l : List ℕ) (s level : ℕ) → s < 64 → level < 65536 → LevelBuffer l → LevelBuffer (with_level_at l s level)
buffer_with l s level within most h =
    record {
      size = size_with l s level ∙ h.size;
      bytes = λ i.
          ⊎_elim
          (λ a. let size = h.size in rw (byte_same l s level i (omega arith) (eqb-true (i / 2) s a)) (byte_lt (i % 2) level most))
          (λ b. rw (byte_other l s level i (eqb-false (i / 2) s b)) (h.bytes i))
          (decide (eqb (i / 2) s));
    }

-- after a person's entry is met with a folder's level
pub buffer_met : (t : Tables) (l : List ℕ) (s o : ℕ) → s < 64 → LevelBuffer l → LevelBuffer (met_with t l s o)
unfolding met_with
buffer_met t l s o within h =
    buffer_with l s _ within (meet_lt 12 4 (level_at l s) (folder_at t o).level.0 (level_lt l s h)) h

-- "and" of a declared person's set with a declared folder's is the person's set after the meet
pub sets_met : (t : Tables) (l sets : List ℕ) (s o : ℕ) → s < 64 → o < 128 → (person_at t s).declared ≡ true → (folder_at t o).declared ≡ true
    → LevelSets t l sets
    → LevelSets t (met_with t l s o) (set sets s (bit_and (get_or sets s 0) (get_or sets (64 + o) 0)))
unfolding met_with lowered
sets_met t l sets s o person folder known known' h =
    record {
      buffer = buffer_met t l s o person h.buffer;
      size = length-set sets s _ ∙ h.size;
      persons = λ u below.
          ⊎_elim
          (λ a. let own = eqb-true u s a in rw own here)
          (λ b.
          let other = eqb-false u s b in
          get_or-set_other sets s u _ 0 other ∙ h.persons u below
          ∙ ap (λ (x : ℕ). level_set x (not (person_at t u).declared)) (sym (level_other t l (read s o) u (λ i w. other (sym w.0)))))
          (decide (eqb u s));
      folders = λ u below.
          get_or-set_other sets s (64 + u) _ 0 (λ e. let z : ⊥ = omega (arith, e) in z) ∙ h.folders u below;
      levels = h.levels;
    }
  where
    both : bit_and (get_or sets s 0) (get_or sets (64 + o) 0) ≡ level_set (meet_of 12 (level_at l s) (folder_at t o).level.0) false
    both =
        ap₂ bit_and (h.persons s person ∙ ap (λ (d : Bool). level_set (level_at l s) (not d)) known)
        (h.folders o folder ∙ ap (λ (d : Bool). level_set (folder_at t o).level.0 (not d)) known')
        ∙ meet (level_at l s) (folder_at t o).level.0 false false (level_lt l s h.buffer) (h.levels o folder)

    here : get_or (set sets s (bit_and (get_or sets s 0) (get_or sets (64 + o) 0))) s 0
        ≡ level_set (level_at (with_level_at l s (meet_of 12 (level_at l s) (folder_at t o).level.0)) s) (not (person_at t s).declared)
    here =
        let sized = h.size in
        let size = h.buffer.size in
        get_or-set_same sets s _ 0 (omega arith) ∙ both
        ∙ sym (ap₂ (λ (x : ℕ) (d : Bool). level_set x (not d)) (level_same l s _ (omega arith)) known)
