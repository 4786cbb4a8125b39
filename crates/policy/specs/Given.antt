-- Tables that a load gives: some rulebook, in bytes, loads to them.
use Rattle.std.specs.Prelude.{ℕ, ◌^◌, ◌<◌, ◌≡◌, ◌↔◌, true, length}
use mathlib.Core.List.{List, Memᴰ}
use Rattle.policy.specs.declared.Person.{Person}
use Rattle.policy.specs.declared.Folder.{Folder}
use Rattle.policy.specs.declared.Role.{Role}
use Rattle.policy.specs.declared.Tables.{Tables}
use Rattle.policy.specs.Rulebook.{load_book, given}

-- bytes are numbers below 256
abbrev pub Bytes : List ℕ → Type 0
Bytes l = (b : ℕ) → Memᴰ b l → b < 256

-- some rulebook loads to these tables
abbrev pub LoadGives : Tables → Type 0
LoadGives t = (book : List ℕ) × Bytes book × ((load_book book).number ≡ 0) × ((load_book book).tables ≡ t)

-- the lengths of the arrays, and the widths of the numbers, that the type of the tables has
pub record OfType (t : Tables) : Type 0 where
  pub firms : length t.firms ≡ 64
  pub persons : length t.persons ≡ 64
  pub folders : length t.folders ≡ 128
  pub roles : length t.roles ≡ 32
  pub steps : length t.steps ≡ 16
  pub person_levels : (s : Person) → Memᴰ s t.persons → s.level.0 < 2 ^ 16
  pub folder_levels : (o : Folder) → Memᴰ o t.folders → o.level.0 < 2 ^ 16
  pub rights : (k : Role) → Memᴰ k t.roles → k.rights < 2 ^ 64
  pub sets : (x : ℕ) → Memᴰ x t.steps → x < 2 ^ 16

-- the test for tables that a load gives holds exactly where some rulebook loads to these tables
abbrev pub Gives : Type 0
Gives = (t : Tables) → (OfType t × (given t ≡ true)) ↔ LoadGives t
