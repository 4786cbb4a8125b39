-- A set of the 128 folders, as two words.
use Rattle.std.specs.Prelude.{ℕ, ◌+◌, Bool}
use Rattle.bits.specs.Bits.{mask_below}
use Rattle.recorded.specs.declared.Folders.{Folders}

-- the folders of which p holds
unfoldable pub folders_of : (ℕ → Bool) → Folders
folders_of p = record { low = mask_below 64 p; high = mask_below 64 (λ i. p (64 + i)) }
