-- What a history's bytes say of a declared person: a request is in the set exactly where its bit is set and its folder, or the person
-- started, is declared, since the history has a place for every declared request. And what given tables say of a declared folder: its firm
-- and its kind are in range.
use Prim.Native.Nat.{ℕ, ◌+◌, ◌*◌, ◌^◌, ◌<◌}
use native.Mathlib.Omega.{arith}
use mathlib.Core.Path.{◌≡◌, refl, sym, ap, ap₂, ◌∙◌}
use mathlib.Core.Bool.{Bool, true, false, not, not-not, ◌&&◌, ◌||◌, and-true, and-false, and_comm, and-or_distrib_left, or_comm}
use mathlib.Core.List.{List}
use lib.Bits.{bit_and, bit_or, and_lt}
use lib.Dec.{eqb}
use lib.ListN.{get_or}
use borrow.Author.Tests.{lt-ltb, le-leb}
use Rattle.bits.specs.Bits.{bit, mask_below}
use Rattle.bits.specs.Bounded.{any_below}
use Rattle.bits.proofs.Booleans.{and_both}
use Rattle.bits.proofs.BitLaws.{bit_and_lem}
use Rattle.bits.proofs.Bounds.{any_ext, none_any}
use Rattle.bits.proofs.Masks.{mask_lt, bit_mask_below, empty_none, mask_ext, mask_or}
use Rattle.policy.specs.declared.Tables.{Tables}
use Rattle.policy.specs.Tables.{folder_at, person_declared, folder_declared}
use Rattle.policy.specs.Rulebook.{given}
use Rattle.policy.specs.History.{bit_at}
use Rattle.policy.specs.Request.{Request, read, write, start, step, index, has_place, set_of}
use Rattle.policy.specs.Rules.{declared, did, stepped, accessed, observed}
use Rattle.policy.proofs.GivenEntries.{folder_firm, folder_kind}
use Rattle.policy.proofs.Requests.{declared_place}
use Rattle.history.specs.Words.{word_at}
use Rattle.history.proofs.WordLaws.{word_bit, word_mask}
use Rattle.recorded.specs.Recorded.{EntryInBounds, read_at, written_at, step_at, stepped_at, touched_at, started}

-- ---- given tables

marked_declared : (t : Tables) (o : ℕ) → o < 128 → (folder_at t o).declared ≡ true → folder_declared t o ≡ true
unfolding folder_declared
marked_declared t o l d = and_both _ _ (lt-ltb o 128 l) d

pub entry_below : (t : Tables) → given t ≡ true → (o : ℕ) → o < 128 → EntryInBounds (folder_at t o)
entry_below t g o l =
    record { firm = λ d. folder_firm t g o (marked_declared t o l d); kind = λ d. folder_kind t g o (marked_declared t o l d) }

-- ---- requests in the set

-- the place need not be asked of a declared request
place_implied : (place here known : Bool) → (known ≡ true → place ≡ true) → place && here && known ≡ known && here
place_implied place here true h = rw (h refl) (and-true here)
place_implied place here false h = and-false (place && here)

pub did_bit : (t : Tables) (h : List ℕ) (r : Request) → did t (set_of h) r ≡ declared t r && bit_at h (index r)
unfolding did set_of
did_bit t h r = place_implied (has_place r) (bit_at h (index r)) (declared t r) (declared_place t r)

-- a test that is the same for every number
pub any_and : (n : ℕ) (p : ℕ → Bool) (b : Bool) → any_below n (λ k. p k && b) ≡ any_below n p && b
any_and n p true = any_ext n _ _ (λ k l. and-true (p k)) ∙ sym (and-true (any_below n p))
any_and n p false = none_any n _ (λ k l. and-false (p k)) ∙ sym (and-false (any_below n p))

module _ (t : Tables) (h : List ℕ) (s : ℕ) (person : person_declared t s ≡ true) where
  pub did_read : (o : ℕ) → o < 128 → did t (set_of h) (read s o) ≡ (folder_at t o).declared && read_at h s o
  unfolding declared folder_declared read_at
  did_read o l = did_bit t h (read s o) ∙ rw (person, lt-ltb o 128 l)

  pub did_write : (o : ℕ) → o < 128 → did t (set_of h) (write s o) ≡ (folder_at t o).declared && written_at h s o
  unfolding declared folder_declared written_at
  did_write o l = did_bit t h (write s o) ∙ rw (person, lt-ltb o 128 l)

  pub did_step : (p o : ℕ) → p < 16 → o < 128 → did t (set_of h) (step s p o) ≡ (folder_at t o).declared && step_at h s o p
  unfolding declared folder_declared step_at
  did_step p o m l = did_bit t h (step s p o) ∙ rw (person, le-leb p 15 (omega arith), lt-ltb o 128 l)

  -- a start of one of the declared persons
  pub did_start : (u : ℕ) {persons : ℕ} → u < 64 → persons ≡ mask_below 64 (person_declared t)
      → did t (set_of h) (start s u) ≡ bit persons u && bit_at h (index (start s u))
  unfolding declared
  did_start u l found =
      did_bit t h (start s u)
      ∙ rw (person, found) (ap (λ (b : Bool). b && bit_at h (index (start s u))) (sym (bit_mask_below 64 (person_declared t) u l)))

  pub did_stepped : (o : ℕ) → o < 128 → stepped t (set_of h) s o ≡ (folder_at t o).declared && stepped_at h s o
  unfolding stepped stepped_at
  did_stepped o l =
      let known = (folder_at t o).declared in
      any_ext 16 (λ p. did t (set_of h) (step s p o)) (λ p. step_at h s o p && known) (λ p m.
      did_step p o m l ∙ and_comm known (step_at h s o p))
      ∙ any_and 16 (step_at h s o) known ∙ and_comm (any_below 16 (step_at h s o)) known

  -- the person observed a declared folder whose bits say so
  pub did_observe : (o : ℕ) → o < 128
      → observed t (set_of h) s o ≡ (folder_at t o).declared && (read_at h s o || stepped_at h s o)
  unfolding observed
  did_observe o l = ap₂ ◌||◌ (did_read o l) (did_stepped o l) ∙ sym (and-or_distrib_left (folder_at t o).declared _ _)

  -- ---- accesses

  -- an undeclared folder counts as not accessed
  pub undeclared : (o : ℕ) → o < 128 → (folder_at t o).declared ≡ false → accessed t (set_of h) s o ≡ false
  unfolding accessed
  undeclared o l d = rw (did_read o l, did_write o l, did_stepped o l, d)

  -- a declared folder was accessed exactly where its bits say so
  pub touched_access : (o : ℕ) → o < 128 → (folder_at t o).declared ≡ true → accessed t (set_of h) s o ≡ touched_at h s o
  unfolding accessed touched_at
  touched_access o l d = rw (did_read o l, did_write o l, did_stepped o l, d)

-- ---- words

-- the word of a person's reads of 64 folders, and that of the writes
pub word_reads : (h : List ℕ) (s first at : ℕ) → ((i : ℕ) → get_or h i 0 < 256) → 8 * at ≡ 128 * s + first
    → word_at h at ≡ mask_below 64 (λ i. read_at h s (first + i))
unfolding read_at index
word_reads h s first at small place =
    word_mask h at small
    ∙ mask_ext 64 _ _ (λ i l. let same : 8 * at + i ≡ 128 * s + (first + i) = omega (arith, place) in ap (bit_at h) same)

pub word_writes : (h : List ℕ) (s first at : ℕ) → ((i : ℕ) → get_or h i 0 < 256) → 8 * at ≡ 8192 + 128 * s + first
    → word_at h at ≡ mask_below 64 (λ i. written_at h s (first + i))
unfolding written_at index
word_writes h s first at small place =
    word_mask h at small
    ∙ mask_ext 64 _ _ (λ i l. let same : 8 * at + i ≡ 8192 + 128 * s + (first + i) = omega (arith, place) in ap (bit_at h) same)

-- those that were read, written or stepped on
pub touched_word : (h : List ℕ) (s first : ℕ) {reads writes steps : ℕ} → reads ≡ mask_below 64 (λ i. read_at h s (first + i))
    → writes ≡ mask_below 64 (λ i. written_at h s (first + i)) → steps ≡ mask_below 64 (λ i. stepped_at h s (first + i))
    → bit_or (bit_or reads writes) steps ≡ mask_below 64 (λ i. touched_at h s (first + i))
unfolding touched_at
touched_word h s first r w p =
    ap₂ bit_or (ap₂ bit_or r w ∙ mask_or 64 _ _) p ∙ mask_or 64 _ _
    ∙ mask_ext 64 _ _ (λ i l.
    or_comm (stepped_at h s (first + i)) (written_at h s (first + i) || read_at h s (first + i))
    ∙ ap (λ (b : Bool). b || stepped_at h s (first + i)) (or_comm (written_at h s (first + i)) (read_at h s (first + i))))

-- ---- starts

-- the word of a person's starts has one of a set of persons exactly where the person started one of them
pub starts_word : (h : List ℕ) (s persons : ℕ) → ((i : ℕ) → get_or h i 0 < 256) → persons < 2 ^ 64
    → not (eqb (bit_and (word_at h (2048 + 8 * s)) persons) 0) ≡ started persons h s
unfolding started index
starts_word h s persons small fits =
    let word = word_at h (2048 + 8 * s) in
    let below : word < 2 ^ 64 = rw (word_mask h (2048 + 8 * s) small) (mask_lt 64 _) in
    ap not (empty_none 64 (bit_and word persons) (and_lt 64 word persons below fits))
    ∙ not-not _
    ∙ any_ext 64 (bit (bit_and word persons)) _ (λ u l.
    let place : 8 * (2048 + 8 * s) + u ≡ 16384 + 64 * s + u = omega arith in
    bit_and_lem word persons u ∙ and_comm (bit word u) (bit persons u)
    ∙ ap (λ (b : Bool). bit persons u && b) (word_bit h (2048 + 8 * s) u small l ∙ ap (bit_at h) place))
