-- A run that writes the numbers: what is lent is what is written so far.
use Rattle.std.specs.Prelude.{ℕ, ◌<◌, ◌≤◌, ◌≡◌, refl, List, length, set}
use Rattle.policy.specs.declared.Folder.{Folder}
use Rattle.policy.specs.declared.Tables.{Tables}
use Rattle.policy.specs.Calls.{State, answers_due}
use Rattle.request.specs.declared.Parsed.{Parsed}
use Rattle.running.specs.Taking.{TakingLaws}

-- there is room for all answers, in the bytes lent; each number is written into the next of them
abbrev pub written_lent : List ℕ → List ℕ → Type 0
written_lent requests lent = answers_due requests ≤ length lent

abbrev pub written_room : List ℕ → List ℕ → List ℕ
written_room requests lent = lent

abbrev pub written_told : Tables → State → List ℕ → List ℕ → ℕ → State → List ℕ → List ℕ → Type 0
written_told t a requests lent at after written told = told ≡ written

abbrev pub may_write : List ℕ → ℕ → Folder → Parsed → ℕ → Type 0
may_write told i e r n = i < length told

abbrev pub writes : List ℕ → ℕ → Folder → Parsed → ℕ → List ℕ → Type 0
writes told i e r n later = later ≡ set told i n

pub written_laws : TakingLaws written_room written_told written_lent may_write writes
written_laws =
    record {
      room = λ requests lent due. due;
      none = λ t a requests lent due. refl;
      may = λ t a₀ a after requests lent at i written told r e n ok is below room parsed entry turned. rw is room;
      more = λ t a₀ a after requests lent at i written told later r e n ok is below parsed entry turned made. rw (made, is) refl;
    }
