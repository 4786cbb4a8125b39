-- Visits of the folders of a set, the lowest first.
use Rattle.std.specs.Prelude.{ℕ, ◌^◌, ◌<◌, ◌≡◌}
use Rattle.bits.specs.Bits.{fold_set}

-- the folders that are left, of 64, lead from x to the whole
pub record Leads {A : Type 0} (turn : ℕ → A → A) (whole : A) (rest : ℕ) (x : A) : Type 0 where
  pub fits : rest < 2 ^ 64
  pub same : fold_set 64 rest turn x ≡ whole
