-- The tables of a rulebook: what each entry is, and what is declared.
use Rattle.std.specs.Prelude.{ℕ, Bool, false, ◌&&◌, ltb, get_or, replicate}
use Rattle.bits.specs.Bits.{bit}
use Rattle.policy.specs.declared.Firm.{Firm}
use Rattle.policy.specs.declared.Person.{Person}
use Rattle.policy.specs.declared.Folder.{Folder}
use Rattle.policy.specs.declared.Role.{Role}
use Rattle.policy.specs.declared.Tables.{Tables}

-- undeclared entries are zero and marked so
abbrev pub no_firm : Firm
no_firm = record { declared = false; class = 0 }

abbrev pub no_person : Person
no_person = record { declared = false; level = record { 0 = 0 } }

abbrev pub no_folder : Folder
no_folder = record { declared = false; firm = 0; kind = 0; level = record { 0 = 0 }; public = false }

abbrev pub no_role : Role
no_role = record { declared = false; rights = 0 }

-- the tables of the empty book, the bytes 1 0 0
unfoldable pub empty_tables : Tables
empty_tables =
    record {
      mask = 0;
      firms = replicate 64 no_firm;
      persons = replicate 64 no_person;
      folders = replicate 128 no_folder;
      roles = replicate 32 no_role;
      steps = replicate 16 0;
    }

-- the entry of a number; past the end of its array, the undeclared entry
abbrev pub firm_at : Tables → ℕ → Firm
firm_at t f = get_or t.firms f no_firm

abbrev pub person_at : Tables → ℕ → Person
person_at t s = get_or t.persons s no_person

abbrev pub folder_at : Tables → ℕ → Folder
folder_at t o = get_or t.folders o no_folder

abbrev pub role_at : Tables → ℕ → Role
role_at t k = get_or t.roles k no_role

-- the set of the steps that step p enables
abbrev pub enabled_by : Tables → ℕ → ℕ
enabled_by t p = get_or t.steps p 0

-- step p enables step q
unfoldable pub enables : Tables → ℕ → ℕ → Bool
enables t p q = bit (enabled_by t p) q

-- a number is declared if it is in range and its entry is marked so
unfoldable pub firm_declared : Tables → ℕ → Bool
firm_declared t f = ltb f 64 && (firm_at t f).declared

unfoldable pub person_declared : Tables → ℕ → Bool
person_declared t s = ltb s 64 && (person_at t s).declared

unfoldable pub folder_declared : Tables → ℕ → Bool
folder_declared t o = ltb o 128 && (folder_at t o).declared

unfoldable pub role_declared : Tables → ℕ → Bool
role_declared t k = ltb k 32 && (role_at t k).declared

-- a folder is marked public (document 02, Point 1)
abbrev pub is_public : Tables → ℕ → Bool
is_public t o = (folder_at t o).public

-- the class of rivals of a folder's firm
unfoldable pub class_of : Tables → ℕ → ℕ
class_of t o = (firm_at t (folder_at t o).firm).class

-- rules in force: bit 0 wall, 1 low-water, 2 roles, 3 pipeline
abbrev pub wall_rule : ℕ
wall_rule = 0

abbrev pub low_water_rule : ℕ
low_water_rule = 1

abbrev pub roles_rule : ℕ
roles_rule = 2

abbrev pub pipeline_rule : ℕ
pipeline_rule = 3

unfoldable pub in_force : Tables → ℕ → Bool
in_force t k = bit t.mask k
