-- What the entries at a request's numbers say of its parties, and what the tables say of them.
use Rattle.std.specs.Prelude.{ℕ, ◌<◌, ◌≡◌, true, ◌&&◌, ltb}
use Rattle.policy.specs.declared.Folder.{Folder}
use Rattle.policy.specs.declared.Person.{Person}
use Rattle.policy.specs.declared.Tables.{Tables}
use Rattle.policy.specs.Tables.{folder_at, person_declared, folder_declared}
use Rattle.request.specs.declared.Parsed.{Parsed}
use Rattle.questions.specs.declared.asking.Asked.{Asked}

unfoldable pub asked_of : ℕ → ℕ → Person → Person → Folder → Asked
asked_of s o person second folder =
    record {
      known = (ltb s 64 && person.declared) && (ltb o 128 && folder.declared);
      folder = folder;
      persons = (ltb s 64 && person.declared) && (ltb o 64 && second.declared);
    }

-- numbers that are known to be declared are in range
pub record InRange (asked : Asked) (r : Parsed) : Type 0 where
  pub both : asked.known ≡ true → (r.person < 64) × (r.target < 128)
  pub two : asked.persons ≡ true → (r.person < 64) × (r.target < 64)

-- what the tables say of a request's parties
pub record Knows (t : Tables) (asked : Asked) (r : Parsed) : Type 0 where
  pub both : asked.known ≡ person_declared t r.person && folder_declared t r.target
  pub entry : asked.known ≡ true → asked.folder ≡ folder_at t r.target
  pub two : asked.persons ≡ person_declared t r.person && person_declared t r.target
