-- What the code holds of one record: the terms in which the parts of `load` are stated.
use Rattle.std.specs.Prelude.{ℕ, ◌+◌, ◌≤◌, ◌<◌, true, cond, not, List, [], ◌∷◌, ◌≡◌, eqb, ltb, leb, length, get_or, drop}
use Rattle.std.specs.Bool.{beq}
use Rattle.policy.specs.declared.Tables.{Tables}
use Rattle.policy.specs.Checks.{Check, ◌else◌, ladder}
use Rattle.policy.specs.Rulebook.{
  Record,
  end,
  rules,
  firm,
  person,
  folder,
  role,
  pair,
  public,
  last_kind,
  body_length,
  record_of,
  in_range,
  declared_before,
  firm_stands,
  folder_stands,
  enters_create,
  record_checks,
}
use Rattle.rulebook.specs.declared.records.Record as Code
use Rattle.rulebook.specs.declared.records.Reading.{Reading}

-- the record that the code's record stands for
abbrev pub record_read : Code.Record → Record
record_read Code.TheVariants.End = end
record_read (Code.TheVariants.Rules mask) = rules mask
record_read (Code.TheVariants.Firm number class) = firm number class
record_read (Code.TheVariants.Person number level) = person number level
record_read (Code.TheVariants.Folder number f kind level) = folder number f kind level
record_read (Code.TheVariants.Role number rights) = role number rights
record_read (Code.TheVariants.Pair p q) = pair p q
record_read (Code.TheVariants.Mark o) = public o

-- the kind of a record
abbrev pub kind_of : Record → ℕ
kind_of end = 0
kind_of (rules mask) = 1
kind_of (firm f class) = 2
kind_of (person s level) = 3
kind_of (folder o f kind level) = 4
kind_of (role k rights) = 5
kind_of (pair p q) = 6
kind_of (public o) = 7

-- the record of a kind, read from its body, which starts at a position, and where that ends
pub record FieldsRead (kind : ℕ) (book : List ℕ) (at : ℕ) (x : Code.Record) (after : ℕ) : Type 0 where
  pub same : record_read x ≡ record_of kind (drop at book)
  pub next : after ≡ at + body_length kind

-- the checks of a record in which the tables have no part
unfoldable pub form_checks : ℕ → ℕ → List ℕ → List Check
form_checks at kind body =
    (leb kind last_kind else 2)
    ∷ (beq (eqb kind 1) (eqb at 0) else 3)
    ∷ (leb (body_length kind) (length body) else 1)
    ∷ (in_range (record_of kind body) else 4)
    ∷ []

-- the number of the first of them that fails; 1 where no byte is left
unfoldable pub form_number : List ℕ → ℕ → ℕ
form_number book at = cond (ltb at (length book)) (ladder (form_checks at (get_or book at 0) (drop (at + 1) book))) 1

-- the reading at an offset: a whole record, which passes those checks
pub record ReadAt (book : List ℕ) (at : ℕ) (r : Reading) : Type 0 where
  pub number : 0 ≡ form_number book at
  pub inside : in_range (record_read r.found) ≡ true
  pub there : at < length book
  pub known : get_or book at 0 ≤ last_kind
  pub same_kind : kind_of (record_read r.found) ≡ get_or book at 0
  pub same : record_read r.found ≡ record_of (get_or book at 0) (drop (at + 1) book)
  pub next : r.next ≡ at + 1 + body_length (get_or book at 0)

-- the checks of a record on the tables, as the definition lists them last
unfoldable pub table_checks : Tables → Record → List Check
table_checks t x =
    (not (declared_before t x) else 5) ∷ (firm_stands t x else 6) ∷ (folder_stands t x else 19) ∷ (not (enters_create x) else 7) ∷ []

-- the number of a record by the checks on the tables
unfoldable pub table_number : Tables → Record → ℕ
table_number t x = ladder (table_checks t x)

-- the number of the record at an offset, as the definition of loading has it
unfoldable pub number_at : List ℕ → ℕ → Tables → ℕ
number_at book at t =
    cond (ltb at (length book)) (ladder (record_checks at t (get_or book at 0) (drop (at + 1) book))) 1
