-- The checks of a request that fail, and the first of them.
use Rattle.std.specs.Prelude.{ℕ, ◌%◌, ◌≡◌, Bool, cond, not, ◌&&◌, ◌||◌, List, [], ◌∷◌, eqb, leb}
use Rattle.std.specs.Int.Bits.{bit_and, bit_or}
use Rattle.bits.specs.Bits.{bit}
use Rattle.level.specs.Levels.{rank_of, compartments_of}
use Rattle.policy.specs.Tables.{wall_rule, low_water_rule, roles_rule, pipeline_rule}
use Rattle.policy.specs.Request.{Request, has_place}
use Rattle.branchfree.specs.Kinds.{asks_level, is_step}

-- a party is not known, the wall refuses, the rank is too low, a compartment is missing, no role holds the rights, the pipeline refuses
pub record Failing : Type 0 where
  pub unknown : Bool
  pub wall : Bool
  pub rank : Bool
  pub compartment : Bool
  pub roles : Bool
  pub pipeline : Bool

-- the place of the first check that fails; 6 where none does
unfoldable pub first_failing : Failing → ℕ
first_failing x =
    cond x.unknown 0
    (cond x.wall 1 (cond x.rank 2 (cond x.compartment 3 (cond x.roles 4 (cond x.pipeline 5 6)))))

-- the bits of the wall, the roles and the pipeline, of those that fail
unfoldable pub others_of : Bool → Bool → Bool → ℕ
others_of wall roles pipeline = bit_or (bit_or (cond wall 2 0) (cond roles 16 0)) (cond pipeline 32 0)

-- its number
unfoldable pub number_at : List ℕ
number_at = 13 ∷ 14 ∷ 15 ∷ 21 ∷ 16 ∷ 17 ∷ 0 ∷ 0 ∷ []

-- all bits where none fails
unfoldable pub grant_at : List ℕ
grant_at = 0 ∷ 0 ∷ 0 ∷ 0 ∷ 0 ∷ 0 ∷ 18446744073709551615 ∷ 0 ∷ []

-- the wall counts a firm of the class, and not the folder's own
unfoldable pub rivals : ℕ → ℕ → ℕ → Bool
rivals counted class firm = not (eqb (bit_and counted class) 0) && not (bit counted (firm % 64))

-- the rank of level b is below that of level a, and a compartment of a is missing in b
unfoldable pub rank_lacks : ℕ → ℕ → Bool
rank_lacks a b = not (leb (rank_of 12 a) (rank_of 12 b))

unfoldable pub compartment_lacks : ℕ → ℕ → Bool
compartment_lacks a b = not (eqb (bit_and (compartments_of 12 a) (compartments_of 12 b)) (compartments_of 12 a))

-- the checks that fail for a request, by what is at hand: the mask, the level that is needed and the person's own, whether their owners are
-- not declared, whether the wall asks about the request, the firms that it counts and those of the class, the folder's firm, the roles that
-- hold the rights used and those that hold the new one, the steps that may be next and the request's step
unfoldable pub failing_of : Request → ℕ → ℕ → ℕ → Bool → Bool → Bool → ℕ → ℕ → ℕ → ℕ → ℕ → ℕ → ℕ → Failing
failing_of q mask a b m n asked counted class firm holding holders next p =
    record {
      unknown = not (has_place q) || (m || n);
      wall = bit mask wall_rule && (rivals counted class firm && asked);
      rank = bit mask low_water_rule && (rank_lacks a b && asks_level q);
      compartment = bit mask low_water_rule && (compartment_lacks a b && asks_level q);
      roles = bit mask roles_rule && eqb (bit_and holding holders) 0;
      pipeline = bit mask pipeline_rule && (not (bit next (p % 64)) && is_step q);
    }

-- what is asked about, or not, of the wall, the roles and the pipeline: each of them that is in force is asked about
pub record Enough (wall roles pipeline : Bool) (mask : ℕ) : Type 0 where
  pub walls : (wall && bit mask wall_rule) ≡ bit mask wall_rule
  pub rights : (roles && bit mask roles_rule) ≡ bit mask roles_rule
  pub steps : (pipeline && bit mask pipeline_rule) ≡ bit mask pipeline_rule
