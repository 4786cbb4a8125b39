-- The entries that a record declares, and the parts of the test for tables that a load gives, over the arrays of the tables. That these
-- are the parts of the definition is proved in proofs/EntryLaws.antt.
use Rattle.std.specs.Prelude.{ℕ, ◌%◌, Bool, true, false, cond, not, ◌&&◌, List, eqb, ltb, leb, get_or}
use Rattle.bits.specs.Bounded.{all_below}
use Rattle.policy.specs.declared.Firm.{Firm}
use Rattle.policy.specs.declared.Person.{Person}
use Rattle.policy.specs.declared.Folder.{Folder}
use Rattle.policy.specs.declared.Role.{Role}
use Rattle.policy.specs.Tables.{no_firm, no_folder}

-- the entries that a record declares
abbrev pub new_firm : ℕ → Firm
new_firm class = record { declared = true; class = class }

abbrev pub new_person : ℕ → Person
new_person level = record { declared = true; level = record { 0 = level } }

abbrev pub new_folder : ℕ → ℕ → ℕ → Folder
new_folder f kind level = record { declared = true; firm = f; kind = kind; level = record { 0 = level }; public = false }

abbrev pub new_role : ℕ → Role
new_role rights = record { declared = true; rights = rights }

-- a folder as a load leaves it, where the entry of its firm is marked declared or not
unfoldable pub folder_given_by : Bool → Folder → Bool
folder_given_by declared o =
    cond o.declared
    (ltb o.firm 64 && declared && leb o.kind 15)
    (eqb o.firm 0 && eqb o.kind 0 && eqb o.level.0 0 && not o.public)

-- the same, with the entry of the firm looked up modulo 64
unfoldable pub folder_given_among : List Firm → Folder → Bool
folder_given_among firms o = folder_given_by (get_or firms (o.firm % 64) no_firm).declared o

unfoldable pub folders_given : List Firm → List Folder → Bool
folders_given firms folders = all_below 128 (λ o. folder_given_among firms (get_or folders o no_folder))
