-- What a person did: the set of the rights used and the set of the firms opened.
use Rattle.std.specs.Prelude.{ℕ, Bool, ◌&&◌, ◌||◌, eqb}
use Rattle.bits.specs.Bits.{mask_below}
use Rattle.policy.specs.declared.Tables.{Tables}
use Rattle.bits.specs.Bounded.{any_below}
use Rattle.policy.specs.Tables.{folder_at}
use Rattle.policy.specs.Request.{Request, read, write}
use Rattle.policy.specs.Rules.{right, did, accessed, used, opened}
use Rattle.past.specs.declared.Past.{Past}

-- what person s did, over the set H of the requests granted so far
unfoldable pub past_of : Tables → (Request → Bool) → ℕ → Past
past_of t H s =
    record {
      rights = mask_below 64 (used t H s);
      firms = mask_below 64 (opened t H s);
    }

-- person s used right x by a read of folder o or a write in it
unfoldable pub used_on : Tables → (Request → Bool) → ℕ → ℕ → ℕ → Bool
used_on t H s x o = did t H (read s o) && eqb (right t (read s o)) x || did t H (write s o) && eqb (right t (write s o)) x

-- folder o, of which p holds, is of firm f
unfoldable pub firm_on : Tables → (ℕ → Bool) → ℕ → ℕ → Bool
firm_on t p f o = p o && eqb (folder_at t o).firm f

-- the firms of the folders below n of which p holds
unfoldable pub firms_below : Tables → (ℕ → Bool) → ℕ → ℕ
firms_below t p n = mask_below 64 (λ f. any_below n (firm_on t p f))

-- the rights that person s used by reads and writes of the folders below n
abbrev pub rights_below : Tables → (Request → Bool) → ℕ → ℕ → ℕ
rights_below t H s n = mask_below 64 (λ x. any_below n (used_on t H s x))

-- what person s did on the folders below n, without the rights of steps
unfoldable pub past_below : Tables → (Request → Bool) → ℕ → ℕ → Past
past_below t H s n =
    record {
      rights = rights_below t H s n;
      firms = firms_below t (accessed t H s) n;
    }
