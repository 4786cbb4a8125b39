-- The members of a set, one after another.
use Rattle.std.specs.Prelude.{ℕ, ◌<◌, ◌≡◌, Option, MatchOption}
use Rattle.bits.specs.Bits.{bit, without_bit}
use Rattle.bits.specs.Bounded.{lowest_below}

-- from a set the lowest member comes and the others are left; from the empty one none comes, and it stays empty
abbrev pub GivesLowest : ℕ → Option ℕ → ℕ → Type 0
GivesLowest set given left =
    MatchOption given ((set ≡ 0) × (left ≡ 0))
    (λ i. (0 < set) × (i ≡ lowest_below 64 (bit set)) × (left ≡ without_bit set (lowest_below 64 (bit set))))
