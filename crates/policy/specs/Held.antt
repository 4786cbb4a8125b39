-- What a level buffer holds beside a history (document 02, Point 4).
use Rattle.std.specs.Prelude.{ℕ, ◌<◌, ◌≡◌}
use Rattle.policy.specs.declared.Tables.{Tables}
use Rattle.policy.specs.Request.{set_of}
use Rattle.policy.specs.Calls.{State}
use Rattle.policy.specs.Published.{IsCurrentLevel, held_level}
use Rattle.policy.specs.Causes.{IsPerson}

-- each of the 64 entries is the level that the history gives
abbrev pub HoldsEach : Tables → State → Type 0
HoldsEach t a = (s : ℕ) → s < 64 → IsCurrentLevel t (set_of a.history) s (held_level a.levels s)

-- the buffer holds what the history gives, as far as a rule asks for it: the entry of each declared person is the person's current level
abbrev pub HoldsCurrent : Tables → State → Type 0
HoldsCurrent t a = (s : ℕ) → IsPerson t s → IsCurrentLevel t (set_of a.history) s (held_level a.levels s)

-- the entry of each other person is zero
abbrev pub HoldsZero : Tables → State → Type 0
HoldsZero t a = (s : ℕ) → s < 64 → (IsPerson t s → ⊥) → held_level a.levels s ≡ 0
