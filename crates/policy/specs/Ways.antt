-- Ways by pairs: from a step to another by one pair after another. Pairs form a circle where a way leads from a step to itself.
use Rattle.std.specs.Prelude.{ℕ, ◌≡◌, true}
use Rattle.policy.specs.declared.Tables.{Tables}
use Rattle.policy.specs.Tables.{enables}

-- a way from p to q, where `Pair p q` says that p enables q
pub data Way (Pair : ℕ → ℕ → Type 0) : ℕ → ℕ → Type 0 where
  one : {p q : ℕ} → Pair p q → Way Pair p q
  more : {p m q : ℕ} → Pair p m → Way Pair m q → Way Pair p q

-- by the tables, p enables q
abbrev pub Enables : Tables → ℕ → ℕ → Type 0
Enables t p q = enables t p q ≡ true
