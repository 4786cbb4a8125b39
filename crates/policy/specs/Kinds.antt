-- The byte of each kind of a request (document 01, "Requests and calls"), and which kind a byte names.
use Rattle.std.specs.Prelude.{ℕ, ◌≡◌, ◌≢◌, Result, MatchResult}
use Rattle.policy.specs.declared.kind.Kind.{Kind}
use Rattle.policy.specs.declared.kind.Kind.TheVariants.{Read, Write, Start, Step}
use Rattle.policy.specs.declared.kind.UnknownKind.{UnknownKind}

abbrev pub kind_number : Kind → ℕ
kind_number Read = 16
kind_number Write = 17
kind_number Start = 18
kind_number Step = 19

-- the result is the kind with this byte, or the byte that no kind has
abbrev pub Names : ℕ → Result Kind UnknownKind → Type 0
Names byte result =
    MatchResult result (λ kind. byte ≡ kind_number kind)
    (λ e. (e.0 ≡ byte) × (byte ≢ 16) × (byte ≢ 17) × (byte ≢ 18) × (byte ≢ 19))
