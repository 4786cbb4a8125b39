-- The tables that an array of 307 numbers holds: each entry by the numbers at its places.
use Rattle.std.specs.Prelude.{ℕ, zero, suc, ◌+◌, ◌/◌, ◌%◌, List, [], ◌∷◌, eqb, get_or}
use Rattle.bits.specs.Bits.{bit}
use Rattle.level.specs.declared.Level.{Level}
use Rattle.policy.specs.declared.Firm.{Firm}
use Rattle.policy.specs.declared.Person.{Person}
use Rattle.policy.specs.declared.Folder.{Folder}
use Rattle.policy.specs.declared.Role.{Role}
use Rattle.policy.specs.declared.Tables.{Tables}

-- the level in the low 16 bits of a number
unfoldable pub level_in : ℕ → Level
level_in x = record { 0 = x % 65536 }

-- a folder: its mark in the lowest byte, then its firm, its kind, its level and whether it is public
unfoldable pub folder_of : ℕ → Folder
folder_of x =
    record {
      declared = eqb (x % 256) 1;
      firm = x / 256 % 256;
      kind = x / 65536 % 256;
      level = level_in (x / 16777216);
      public = bit x 40;
    }

-- a firm: its mark in the lowest byte, then its class
unfoldable pub firm_of : ℕ → Firm
firm_of x = record { declared = eqb (x % 256) 1; class = x / 256 % 256 }

-- person s and role k: marked so in a set, beside the level or the rights
unfoldable pub person_of : ℕ → ℕ → ℕ → Person
person_of set s x = record { declared = bit set s; level = level_in x }

unfoldable pub role_of : ℕ → ℕ → ℕ → Role
role_of set k x = record { declared = bit set k; rights = x }

-- the values of a function at the n numbers from a number on
unfoldable pub values_from : {A : Type 0} → ℕ → ℕ → (ℕ → A) → List A
values_from zero at f = []
values_from (suc n) at f = f at ∷ values_from n (suc at) f

-- the tables that the words hold
unfoldable pub tables_of : List ℕ → Tables
tables_of w =
    record {
      mask = get_or w 304 0 % 256;
      firms = values_from 64 0 (λ f. firm_of (get_or w (192 + f) 0));
      persons = values_from 64 0 (λ s. person_of (get_or w 305 0) s (get_or w (128 + s) 0));
      folders = values_from 128 0 (λ o. folder_of (get_or w o 0));
      roles = values_from 32 0 (λ k. role_of (get_or w 306 0) k (get_or w (256 + k) 0));
      steps = values_from 16 0 (λ p. get_or w (288 + p) 0 % 65536);
    }
