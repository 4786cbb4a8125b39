-- What the answer of a pass says to those who count: as many bits of its rights are set as rights were used, and as many of its firms as
-- firms were opened.
use Prim.Native.Nat.{ℕ}
use mathlib.Core.Path.{◌≡◌}
use mathlib.Core.Bool.{Bool}
use Rattle.bits.specs.Bits.{bit}
use Rattle.bits.specs.Bounded.{count_below}
use Rattle.bits.proofs.Masks.{mask_count}
use Rattle.policy.specs.declared.Tables.{Tables}
use Rattle.policy.specs.Request.{Request}
use Rattle.policy.specs.Rules.{used, opened}
use Rattle.past.specs.Past.{past_of}

module _ (t : Tables) (H : Request → Bool) (s : ℕ) where
  pub used_count : count_below 64 (bit (past_of t H s).rights) ≡ count_below 64 (used t H s)
  unfolding past_of
  used_count = mask_count 64 (used t H s)

  pub opened_count : count_below 64 (bit (past_of t H s).firms) ≡ count_below 64 (opened t H s)
  unfolding past_of
  opened_count = mask_count 64 (opened t H s)
