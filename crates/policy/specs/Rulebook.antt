-- Rulebooks (document 01, "Rulebook", and document 02, Point 1): records, what each declares, the checks of loading in their order, and
-- the tables a load gives.
use Rattle.std.specs.Prelude.{ℕ, zero, suc, ◌+◌, ◌*◌, Bool, true, false, cond, not, ◌&&◌, ◌||◌, List, [], ◌∷◌, eqb, leb, length, get_or, set, take, drop}
use Rattle.std.specs.Bool.{beq}
use Rattle.bits.specs.Bits.{with_bit}
use Rattle.bits.specs.Bounded.{any_below, all_below}
use Rattle.policy.specs.declared.Firm.{Firm}
use Rattle.policy.specs.declared.Person.{Person}
use Rattle.policy.specs.declared.Folder.{Folder}
use Rattle.policy.specs.declared.Role.{Role}
use Rattle.policy.specs.declared.Tables.{Tables}
use Rattle.policy.specs.declared.Loaded.{Loaded}
use Rattle.policy.specs.Checks.{Check, ◌else◌, ladder}
use Rattle.policy.specs.Tables.{
  empty_tables,
  firm_at,
  person_at,
  folder_at,
  role_at,
  enabled_by,
  enables,
  firm_declared,
  person_declared,
  folder_declared,
  role_declared,
  is_public,
}

-- a record, with its fields in the order of its body
pub data Record : Type 0 where
  end : Record
  rules : (mask : ℕ) → Record
  firm : (number class : ℕ) → Record
  person : (number level : ℕ) → Record
  folder : (number firm kind level : ℕ) → Record
  role : (number rights : ℕ) → Record
  pair : (p q : ℕ) → Record
  public : (folder : ℕ) → Record

-- the highest kind of a record
abbrev pub last_kind : ℕ
last_kind = 7

-- the kind byte fixes the length of the body
unfoldable pub body_length : ℕ → ℕ
body_length kind = get_or (0 ∷ 1 ∷ 2 ∷ 3 ∷ 5 ∷ 9 ∷ 2 ∷ 1 ∷ []) kind 0

-- the number that little-endian bytes are
unfoldable pub little_endian : List ℕ → ℕ
little_endian [] = 0
little_endian (b ∷ bytes) = b + 256 * little_endian bytes

-- the record of a known kind and the bytes after the kind byte
unfoldable pub record_of : ℕ → List ℕ → Record
record_of kind body =
    get_or (end
    ∷ rules (get_or body 0 0)
    ∷ firm (get_or body 0 0) (get_or body 1 0)
    ∷ person (get_or body 0 0) (little_endian (take 2 (drop 1 body)))
    ∷ folder (get_or body 0 0) (get_or body 1 0) (get_or body 2 0) (little_endian (take 2 (drop 3 body)))
    ∷ role (get_or body 0 0) (little_endian (take 8 (drop 1 body)))
    ∷ pair (get_or body 0 0) (get_or body 1 0)
    ∷ public (get_or body 0 0)
    ∷ []) kind end

-- each field is in its range
unfoldable pub in_range : Record → Bool
in_range end = true
in_range (rules mask) = leb mask 15
in_range (firm f class) = leb f 63 && leb class 31
in_range (person s level) = leb s 63
in_range (folder o f kind level) = leb o 127 && leb f 63 && leb kind 15
in_range (role k rights) = leb k 31
in_range (pair p q) = leb p 15 && leb q 15
in_range (public o) = leb o 127

-- the number, or the pair, is declared already; the folder is marked already
unfoldable pub declared_before : Tables → Record → Bool
declared_before t end = false
declared_before t (rules mask) = false
declared_before t (firm f class) = firm_declared t f
declared_before t (person s level) = person_declared t s
declared_before t (folder o f kind level) = folder_declared t o
declared_before t (role k rights) = role_declared t k
declared_before t (pair p q) = enables t p q
declared_before t (public o) = is_public t o

-- a folder's firm stands earlier
unfoldable pub firm_stands : Tables → Record → Bool
firm_stands t end = true
firm_stands t (rules mask) = true
firm_stands t (firm f class) = true
firm_stands t (person s level) = true
firm_stands t (folder o f kind level) = firm_declared t f
firm_stands t (role k rights) = true
firm_stands t (pair p q) = true
firm_stands t (public o) = true

-- a folder that is marked public stands earlier
unfoldable pub folder_stands : Tables → Record → Bool
folder_stands t end = true
folder_stands t (rules mask) = true
folder_stands t (firm f class) = true
folder_stands t (person s level) = true
folder_stands t (folder o f kind level) = true
folder_stands t (role k rights) = true
folder_stands t (pair p q) = true
folder_stands t (public o) = folder_declared t o

-- a pair whose second step is 0
unfoldable pub enters_create : Record → Bool
enters_create end = false
enters_create (rules mask) = false
enters_create (firm f class) = false
enters_create (person s level) = false
enters_create (folder o f kind level) = false
enters_create (role k rights) = false
enters_create (pair p q) = eqb q 0
enters_create (public o) = false

-- the checks of one record, whose kind byte stands at an offset with the bytes after it; that a byte is left is checked before
unfoldable pub record_checks : ℕ → Tables → ℕ → List ℕ → List Check
record_checks at t kind body =
    (leb kind last_kind else 2)
    ∷ (beq (eqb kind 1) (eqb at 0) else 3)
    ∷ (leb (body_length kind) (length body) else 1)
    ∷ (in_range (record_of kind body) else 4)
    ∷ (not (declared_before t (record_of kind body)) else 5)
    ∷ (firm_stands t (record_of kind body) else 6)
    ∷ (folder_stands t (record_of kind body) else 19)
    ∷ (not (enters_create (record_of kind body)) else 7)
    ∷ []

-- a folder's entry, marked public
unfoldable pub made_public : Folder → Folder
made_public e = record { declared = e.declared; firm = e.firm; kind = e.kind; level = e.level; public = true }

-- the tables with what a record declares; a folder's record gives an entry that is not marked public
unfoldable pub declare : Tables → Record → Tables
declare t end = t
declare t (rules mask) =
    record { mask = mask; firms = t.firms; persons = t.persons; folders = t.folders; roles = t.roles; steps = t.steps }
declare t (firm f class) =
    let firms = set t.firms f (record { declared = true; class = class }) in
    record { mask = t.mask; firms = firms; persons = t.persons; folders = t.folders; roles = t.roles; steps = t.steps }
declare t (person s level) =
    let persons = set t.persons s (record { declared = true; level = record { 0 = level } }) in
    record { mask = t.mask; firms = t.firms; persons = persons; folders = t.folders; roles = t.roles; steps = t.steps }
declare t (folder o f kind level) =
    let folders = set t.folders o (record { declared = true; firm = f; kind = kind; level = record { 0 = level }; public = false }) in
    record { mask = t.mask; firms = t.firms; persons = t.persons; folders = folders; roles = t.roles; steps = t.steps }
declare t (role k rights) =
    let roles = set t.roles k (record { declared = true; rights = rights }) in
    record { mask = t.mask; firms = t.firms; persons = t.persons; folders = t.folders; roles = roles; steps = t.steps }
declare t (pair p q) =
    let steps = set t.steps p (with_bit (enabled_by t p) q) in
    record { mask = t.mask; firms = t.firms; persons = t.persons; folders = t.folders; roles = t.roles; steps = steps }
declare t (public o) =
    let folders = set t.folders o (made_public (folder_at t o)) in
    record { mask = t.mask; firms = t.firms; persons = t.persons; folders = folders; roles = t.roles; steps = t.steps }

-- a way from step p to step q by pairs, all of whose inner steps are below k
unfoldable pub reaches : Tables → ℕ → ℕ → ℕ → Bool
reaches t zero p q = enables t p q
reaches t (suc k) p q = reaches t k p q || (reaches t k p k && reaches t k k q)

-- pairs form a circle, p to p included
unfoldable pub has_circle : Tables → Bool
has_circle t = any_below 16 (λ p. reaches t 16 p p)

-- "every step but 0 that enables something is itself enabled": step p, other than 0, enables something and is not itself enabled
unfoldable pub is_loose : Tables → ℕ → Bool
is_loose t p = not (eqb p 0) && not (eqb (enabled_by t p) 0) && not (any_below 16 (λ r. enables t r p))

-- "a step enables but isn't enabled": some step is such a step
unfoldable pub has_loose : Tables → Bool
has_loose t = any_below 16 (is_loose t)

-- the checks at the end record
unfoldable pub end_checks : Tables → List Check
end_checks t = (not (has_circle t) else 8) ∷ (not (has_loose t) else 9) ∷ []

-- a refused book: the tables of the empty book, and the offset
unfoldable pub refused_book : ℕ → ℕ → Loaded
refused_book number at = record { number = number; offset = at; tables = empty_tables }

-- the end record at an offset
unfoldable pub ended : ℕ → Tables → Loaded
ended at t =
    let number = ladder (end_checks t) in
    cond (eqb number 0) (record { number = 0; offset = at; tables = t }) (refused_book number at)

-- loading the bytes left, the first of them at an offset, over what stands declared; no book has more records than bytes
unfoldable pub load_from : ℕ → ℕ → List ℕ → Tables → Loaded
load_from zero at bytes t = refused_book 1 at
load_from (suc n) at [] t = refused_book 1 at
load_from (suc n) at (kind ∷ body) t =
    let number = ladder (record_checks at t kind body) in
    let next = load_from n (at + 1 + body_length kind) (drop (body_length kind) body) (declare t (record_of kind body)) in
    let last = ended at t in
    let passed = cond (eqb kind 0) last next in
    cond (eqb number 0) passed (refused_book number at)

unfoldable pub load_book : List ℕ → Loaded
load_book book = load_from (length book) 0 book empty_tables

-- the records of a book up to its end record
unfoldable pub records_from : ℕ → List ℕ → List Record
records_from zero bytes = []
records_from (suc n) [] = []
records_from (suc n) (kind ∷ body) =
    let next = records_from n (drop (body_length kind) body) in
    cond (eqb kind 0) [] (record_of kind body ∷ next)

unfoldable pub records_of : List ℕ → List Record
records_of book = records_from (length book) book

-- an entry as a load leaves it: in range, and zero where undeclared
unfoldable pub firm_given : Firm → Bool
firm_given f = cond f.declared (leb f.class 31) (eqb f.class 0)

unfoldable pub person_given : Person → Bool
person_given s = s.declared || eqb s.level.0 0

unfoldable pub folder_given : Tables → Folder → Bool
folder_given t o =
    cond o.declared
    (firm_declared t o.firm && leb o.kind 15)
    (eqb o.firm 0 && eqb o.kind 0 && eqb o.level.0 0 && not o.public)

unfoldable pub role_given : Role → Bool
role_given k = k.declared || eqb k.rights 0

-- tables that a load gives (number 11 refuses all others)
unfoldable pub given : Tables → Bool
given t =
    leb t.mask 15
    && all_below 64 (λ f. firm_given (firm_at t f))
    && all_below 64 (λ s. person_given (person_at t s))
    && all_below 128 (λ o. folder_given t (folder_at t o))
    && all_below 32 (λ k. role_given (role_at t k))
    && all_below 16 (λ p. not (enables t p 0))
    && not (has_circle t)
    && not (has_loose t)
