-- What loading comes to, by the records of a book alone (document 01, "Rulebook" and the table; document 02, Point 1): how a record stands
-- in the bytes, the causes 1 to 9 and 19 over the records read before, and the first record that has one.
use Rattle.std.specs.Prelude.{ℕ, ◌+◌, ◌*◌, ◌≤◌, ◌<◌, ◌≡◌, ◌⊎◌, ◌↔◌, ◌≢◌, length}
use mathlib.Core.List.{List, [], ◌∷◌, ◌++◌, reverse, Memᴰ}
use Rattle.policy.specs.Rulebook.{Record, end, rules, firm, person, folder, role, pair, public, little_endian, load_book, records_of}
use Rattle.policy.specs.Calls.{rest_of}
use Rattle.policy.specs.Causes.{Cause, ◌when◌, Answer}
use Rattle.policy.specs.Ways.{Way}

-- the record stands at the front of the bytes, with `rest` after it: the kind byte, then the fields in the order of the body
pub data Stands : Record → List ℕ → List ℕ → Type 0 where
  kind_0 : {rest : List ℕ} → Stands end (0 ∷ rest) rest
  kind_1 : {mask : ℕ} {rest : List ℕ} → Stands (rules mask) (1 ∷ mask ∷ rest) rest
  kind_2 : {f class : ℕ} {rest : List ℕ} → Stands (firm f class) (2 ∷ f ∷ class ∷ rest) rest
  kind_3 : {s low high : ℕ} {rest : List ℕ} → Stands (person s (low + 256 * high)) (3 ∷ s ∷ low ∷ high ∷ rest) rest
  kind_4 :
      {o f kind low high : ℕ} {rest : List ℕ}
      → Stands (folder o f kind (low + 256 * high)) (4 ∷ o ∷ f ∷ kind ∷ low ∷ high ∷ rest) rest
  kind_5 :
      {k : ℕ} (rights : List ℕ) {rest : List ℕ} → length rights ≡ 8
      → Stands (role k (little_endian rights)) (5 ∷ k ∷ (rights ++ rest)) rest
  kind_6 : {p q : ℕ} {rest : List ℕ} → Stands (pair p q) (6 ∷ p ∷ q ∷ rest) rest
  kind_7 : {o : ℕ} {rest : List ℕ} → Stands (public o) (7 ∷ o ∷ rest) rest

-- P holds of the kind byte at the front of the bytes, or of the record that stands there
abbrev pub KindAtFront : List ℕ → (ℕ → Type 0) → Type 0
KindAtFront bytes P = (kind : ℕ) × (body : List ℕ) × (bytes ≡ kind ∷ body) × P kind

abbrev pub RecordAtFront : List ℕ → (Record → Type 0) → Type 0
RecordAtFront bytes P = (r : Record) × (rest : List ℕ) × Stands r bytes rest × P r

-- each field is in its range
abbrev pub InRange : Record → Type 0
InRange end = Unit {0}
InRange (rules mask) = mask ≤ 15
InRange (firm f class) = (f ≤ 63) × (class ≤ 31)
InRange (person s level) = s ≤ 63
InRange (folder o f kind level) = (o ≤ 127) × (f ≤ 63) × (kind ≤ 15)
InRange (role k rights) = k ≤ 31
InRange (pair p q) = (p ≤ 15) × (q ≤ 15)
InRange (public o) = o ≤ 127

module _ (before : List Record) where
  -- kind 1 not first, or again
  abbrev pub Misplaced : ℕ → Type 0
  Misplaced kind = ((before ≡ []) × (kind ≢ 1)) ⊎ ((before ≢ []) × (kind ≡ 1))

  -- number or pair already declared; a folder marked twice
  abbrev pub DeclaredBefore : Record → Type 0
  DeclaredBefore end = ⊥
  DeclaredBefore (rules mask) = ⊥
  DeclaredBefore (firm f class) = (class' : ℕ) × Memᴰ (firm f class') before
  DeclaredBefore (person s level) = (level' : ℕ) × Memᴰ (person s level') before
  DeclaredBefore (folder o f kind level) = (f' kind' level' : ℕ) × Memᴰ (folder o f' kind' level') before
  DeclaredBefore (role k rights) = (rights' : ℕ) × Memᴰ (role k rights') before
  DeclaredBefore (pair p q) = Memᴰ (pair p q) before
  DeclaredBefore (public o) = Memᴰ (public o) before

  -- firm not declared earlier
  abbrev pub NoFirmBefore : Record → Type 0
  NoFirmBefore end = ⊥
  NoFirmBefore (rules mask) = ⊥
  NoFirmBefore (firm f class) = ⊥
  NoFirmBefore (person s level) = ⊥
  NoFirmBefore (folder o f kind level) = (class : ℕ) → Memᴰ (firm f class) before → ⊥
  NoFirmBefore (role k rights) = ⊥
  NoFirmBefore (pair p q) = ⊥
  NoFirmBefore (public o) = ⊥

  -- a folder that is marked public, but not declared earlier
  abbrev pub NoFolderBefore : Record → Type 0
  NoFolderBefore r = (o : ℕ) × (r ≡ public o) × ((f kind level : ℕ) → Memᴰ (folder o f kind level) before → ⊥)

  -- p enables q
  abbrev pub Pair : ℕ → ℕ → Type 0
  Pair p q = Memᴰ (pair p q) before

  -- pairs form a circle, p to p included
  abbrev pub Circle : Type 0
  Circle = (p : ℕ) × Way Pair p p

  -- a step other than 0 enables but isn't enabled
  abbrev pub Loose : Type 0
  Loose = (p : ℕ) × (p ≢ 0) × ((q : ℕ) × Pair p q) × ((r : ℕ) → Pair r p → ⊥)

  -- the causes of the record at the front of the bytes left
  unfoldable pub record_causes : List ℕ → List Cause
  record_causes bytes =
      (1 when (bytes ≡ []))
      ∷ (2 when KindAtFront bytes (λ kind. 7 < kind))
      ∷ (3 when KindAtFront bytes Misplaced)
      ∷ (1 when (RecordAtFront bytes (λ r. Unit {0}) → ⊥))
      ∷ (4 when RecordAtFront bytes (λ r. InRange r → ⊥))
      ∷ (5 when RecordAtFront bytes DeclaredBefore)
      ∷ (6 when RecordAtFront bytes NoFirmBefore)
      ∷ (19 when RecordAtFront bytes NoFolderBefore)
      ∷ (7 when RecordAtFront bytes (λ r. (p : ℕ) × (r ≡ pair p 0)))
      ∷ (8 when RecordAtFront bytes (λ r. (r ≡ end) × Circle))
      ∷ (9 when RecordAtFront bytes (λ r. (r ≡ end) × Loose))
      ∷ []

-- the records that stand before some bytes of the book, the last one first: each stands whole and has no cause, none is the end record
pub data Reads (book : List ℕ) : List Record → List ℕ → Type 0 where
  no_record : Reads book [] book
  one_more :
      {before : List Record} {bytes rest : List ℕ} {r : Record} → Reads book before bytes
      → Answer (record_causes before bytes) 0 → Stands r bytes rest → r ≢ end → Reads book (r ∷ before) rest

-- the book is read up to an offset, where the record has n as the number of its first cause, or none and ends the book
abbrev pub ComesTo : List ℕ → ℕ → ℕ → Type 0
ComesTo book n at =
    (before : List Record) × (bytes : List ℕ) × Reads book before bytes × (at + length bytes ≡ length book)
    × Answer (record_causes before bytes) n × (n ≡ 0 → RecordAtFront bytes (λ r. r ≡ end))

-- a load's number and offset are those that its book comes to
abbrev pub LoadCauses : Type 0
LoadCauses = (book : List ℕ) (n at : ℕ) → (((load_book book).number ≡ n) × ((load_book book).offset ≡ at)) ↔ ComesTo book n at

-- the records of a book that loads are those that stand in it, one after another up to the end record, and its rest follows that
abbrev pub Records : Type 0
Records = (book : List ℕ) → (load_book book).number ≡ 0 → Reads book (reverse (records_of book)) (0 ∷ rest_of book)
