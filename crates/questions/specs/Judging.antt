-- What the functions of this crate and of `judging` compute: the number of a request by the checks 13 to 17, with 21 in the place of 15.
use Rattle.std.specs.Prelude.{ℕ, ◌+◌, ◌≡◌, Bool, true, cond, List, [], ◌∷◌, length}
use Rattle.std.proofs.Math.Option.{Option, some}
use Rattle.bits.specs.Bits.{bit}
use Rattle.bits.specs.Bounded.{◌implies◌}
use Rattle.level.specs.declared.Comparison.{Comparison}
use Rattle.level.specs.declared.Comparison.TheVariants.{AtMost}
use Rattle.level.specs.Levels.{compare_of, is_at_most}
use Rattle.policy.specs.declared.Tables.{Tables}
use Rattle.policy.specs.Checks.{◌else◌, ladder}
use Rattle.policy.specs.Tables.{wall_rule, low_water_rule, roles_rule, pipeline_rule}
use Rattle.policy.specs.Rulebook.{given}
use Rattle.policy.specs.History.{history_bytes}
use Rattle.policy.specs.Request.{Request, subject}
use Rattle.policy.specs.Levels.{levels_bytes}
use Rattle.policy.specs.Rules.{declared, right, roles}
use Rattle.policy.specs.Calls.{outcome_number, request_checks}

-- what the calls have checked: tables that a load gives, and a history and levels of the right lengths
pub record Ready (t : Tables) (h l : List ℕ) : Type 0 where
  pub tables : given t ≡ true
  pub size : length h ≡ history_bytes
  pub held : length l ≡ levels_bytes

-- the outcome of low-water's comparison of a level with the stored one, for a request that it asks about; none is asked of a read
unfoldable pub outcome_if : Bool → ℕ → ℕ → Comparison
outcome_if asks level stored = cond asks (compare_of 12 level stored) AtMost

-- the right of a write to a folder of a kind, or of a read
unfoldable pub access_right : Bool → ℕ → ℕ
access_right writes kind = cond writes (16 + kind) kind

-- the number of a request of declared parties under a mask, by whether wall, roles and pipeline permit and by the outcome of low-water
unfoldable pub number_of : ℕ → Bool → Comparison → Bool → Bool → ℕ
number_of mask wall outcome roles pipeline =
    ladder (((bit mask wall_rule implies wall) else 14)
    ∷ ((bit mask low_water_rule implies is_at_most outcome) else outcome_number outcome)
    ∷ ((bit mask roles_rule implies roles) else 16)
    ∷ ((bit mask pipeline_rule implies pipeline) else 17)
    ∷ [])

-- the number of a request that was parsed, or of none
unfoldable pub number_for : Tables → (Request → Bool) → (ℕ → ℕ) → Option Request → ℕ
number_for t H levels r = ladder (request_checks t H levels r)

-- the number of a whole request
abbrev pub judged : Tables → (Request → Bool) → (ℕ → ℕ) → Request → ℕ
judged t H levels r = number_for t H levels (some r)

-- whether roles permit a right, for every request of person s that uses it
abbrev pub RolesPermit : Tables → (Request → Bool) → ℕ → ℕ → Bool → Type 0
RolesPermit t H s x permits = (r : Request) → declared t r ≡ true → subject r ≡ s → x ≡ right t r → permits ≡ roles t H r
