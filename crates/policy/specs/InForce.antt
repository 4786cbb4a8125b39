-- The bit of each rule in the mask of the rules in force.
use Rattle.std.specs.Prelude.{ℕ}
use Rattle.policy.specs.declared.rule.Rule.{Rule}
use Rattle.policy.specs.declared.rule.Rule.TheVariants.{Wall, LowWater, Roles, Pipeline}
use Rattle.policy.specs.Tables.{wall_rule, low_water_rule, roles_rule, pipeline_rule}

abbrev pub rule_bit : Rule → ℕ
rule_bit Wall = wall_rule
rule_bit LowWater = low_water_rule
rule_bit Roles = roles_rule
rule_bit Pipeline = pipeline_rule
