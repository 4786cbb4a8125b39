-- The first check that fails, by what is kept, has the number that the definitions give: what is kept says of each rule in force what its
-- definition says, the marks say whether the parties are declared, and the ladder's number is that of the first test that fails, which is
-- seen of every combination of tests.
use Prim.Native.Nat.{ℕ, ◌%◌}
use mathlib.Core.Path.{◌≡◌, refl, ap, ◌∙◌}
use mathlib.Core.Logic.{⊎_elim}
use mathlib.Core.Bool.{Bool, true, false, cond, not, ◌&&◌, ◌||◌}
use mathlib.Core.Option.{some}
use lib.Dec.{eqb}
use lib.Bits.{bit_and}
use lib.ListN.{get_or}
use borrow.Author.Tests.{eqb-true}
use Rattle.bits.specs.Bits.{bit}
use Rattle.bits.specs.Bounded.{◌implies◌}
use Rattle.bits.proofs.Booleans.{decide}
use Rattle.level.specs.declared.Comparison.{Comparison}
use Rattle.level.specs.declared.Comparison.TheVariants.{AtMost, RankTooLow, CompartmentMissing}
use Rattle.level.specs.Levels.{is_at_most}
use Rattle.policy.specs.declared.Tables.{Tables}
use Rattle.policy.specs.Checks.{ladder}
use Rattle.policy.specs.Tables.{in_force, wall_rule, low_water_rule, roles_rule, pipeline_rule}
use Rattle.policy.specs.Request.{Request, has_place}
use Rattle.policy.specs.Rules.{declared, wall, level_outcome, low_water, roles, pipeline}
use Rattle.policy.specs.Calls.{outcome_number, request_checks}
use Rattle.branchfree.specs.Kinds.{asks_level, is_step}
use Rattle.branchfree.specs.Failing.{Failing, first_failing, number_at, rivals, rank_lacks, compartment_lacks, failing_of}
use Rattle.branchfree.proofs.FailingLaws.{every, every_at}

-- ---- the number of the first test that fails

-- an outcome by two tests
abbrev outcome_by : Bool → Bool → Comparison
outcome_by rank compartment = cond rank RankTooLow (cond compartment CompartmentMissing AtMost)

abbrev by_ladder : Bool → Bool → Bool → Bool → Bool → Bool → Bool → Bool → Bool → ℕ
by_ladder w l k s a r c h p =
    cond (w implies not a)
    (cond (l implies is_at_most (outcome_by r c)) (cond (k implies not h) (cond (s implies not p) 0 17) 16) (outcome_number (outcome_by r c)))
    14

abbrev by_tests : Bool → Bool → Bool → Bool → Bool → Bool → Bool → Bool → Bool → ℕ
by_tests w l k s a r c h p =
    get_or number_at
    (first_failing
    (record { unknown = false; wall = w && a; rank = l && r; compartment = l && c; roles = k && h; pipeline = s && p }))
    0

abbrev agree : Bool → Bool → Bool → Bool → Bool → Bool → Bool → Bool → Bool → Bool
agree w l k s a r c h p = eqb (by_ladder w l k s a r c h p) (by_tests w l k s a r c h p)

all_agree : every (λ w.
    every (λ l. every (λ k. every (λ s. every (λ a. every (λ r. every (λ c. every (λ h. every (λ p. agree w l k s a r c h p))))))))) ≡ true
unfolding is_at_most outcome_number first_failing number_at
all_agree = refl

numbers_agree : (w l k s a r c h p : Bool) → by_ladder w l k s a r c h p ≡ by_tests w l k s a r c h p
numbers_agree w l k s a r c h p =
    eqb-true _ _
    (every_at (agree w l k s a r c h)
    (every_at (λ h. every (λ p. agree w l k s a r c h p))
    (every_at (λ c. every (λ h. every (λ p. agree w l k s a r c h p)))
    (every_at (λ r. every (λ c. every (λ h. every (λ p. agree w l k s a r c h p))))
    (every_at (λ a. every (λ r. every (λ c. every (λ h. every (λ p. agree w l k s a r c h p)))))
    (every_at (λ s. every (λ a. every (λ r. every (λ c. every (λ h. every (λ p. agree w l k s a r c h p))))))
    (every_at (λ k. every (λ s. every (λ a. every (λ r. every (λ c. every (λ h. every (λ p. agree w l k s a r c h p)))))))
    (every_at (λ l.
    every (λ k. every (λ s. every (λ a. every (λ r. every (λ c. every (λ h. every (λ p. agree w l k s a r c h p))))))))
    (every_at (λ w.
    every (λ l. every (λ k. every (λ s. every (λ a. every (λ r. every (λ c. every (λ h. every (λ p. agree w l k s a r c h p)))))))))
    all_agree w)
    l)
    k)
    s)
    a)
    r)
    c)
    h)
    p)

same_if : (on b b' : Bool) → (on ≡ true → b ≡ b') → (on implies b) ≡ (on implies b')
same_if true b b' e = e refl
same_if false b b' e = refl

unknown_first : (x : Failing) → x.unknown ≡ true → 13 ≡ get_or number_at (first_failing x) 0
unfolding first_failing number_at
unknown_first x e = rw e

-- ---- a request of declared parties, and of others

module _ (t : Tables) (H : Request → Bool) (levels : ℕ → ℕ) (q : Request) (mask : ℕ) (rules : mask ≡ t.mask) where
  on : (k : ℕ) → bit mask k ≡ in_force t k
  unfolding in_force
  on k = ap (λ (m : ℕ). bit m k) rules

  by_rules : declared t q ≡ true
      → ladder (request_checks t H levels (some q))
      ≡ cond (in_force t wall_rule implies wall t H q)
      (cond (in_force t low_water_rule implies is_at_most (level_outcome t levels q))
      (cond (in_force t roles_rule implies roles t H q) (cond (in_force t pipeline_rule implies pipeline t H q) 0 17) 16)
      (outcome_number (level_outcome t levels q)))
      14
  unfolding request_checks ladder low_water
  by_rules d = rw d

  pub not_declared : declared t q ≡ false → ladder (request_checks t H levels (some q)) ≡ 13
  unfolding request_checks ladder
  not_declared d = rw d

  pub decided : (a b : ℕ) (m n asked : Bool) (counted class firm holding holders next p : ℕ)
      → (not (has_place q) || (m || n)) ≡ not (declared t q)
      → (declared t q ≡ true → in_force t wall_rule ≡ true → wall t H q ≡ not (rivals counted class firm && asked))
      → (declared t q ≡ true
      → level_outcome t levels q ≡ outcome_by (rank_lacks a b && asks_level q) (compartment_lacks a b && asks_level q))
      → (declared t q ≡ true → in_force t roles_rule ≡ true → roles t H q ≡ not (eqb (bit_and holding holders) 0))
      → (declared t q ≡ true → in_force t pipeline_rule ≡ true → pipeline t H q ≡ not (not (bit next (p % 64)) && is_step q))
      → ladder (request_checks t H levels (some q))
      ≡ get_or number_at (first_failing (failing_of q mask a b m n asked counted class firm holding holders next p)) 0
  unfolding failing_of
  decided a b m n asked counted class firm holding holders next p parties walls outcomes hold steps =
      ⊎_elim
      (λ d.
      let known : (not (has_place q) || (m || n)) ≡ false = parties ∙ ap not d in
      by_rules d
      ∙ rw (
        known,
        on wall_rule,
        on low_water_rule,
        on roles_rule,
        on pipeline_rule,
        outcomes d,
        same_if (in_force t wall_rule) (wall t H q) (not (rivals counted class firm && asked)) (walls d),
        same_if (in_force t roles_rule) (roles t H q) (not (eqb (bit_and holding holders) 0)) (hold d),
        same_if (in_force t pipeline_rule) (pipeline t H q) (not (not (bit next (p % 64)) && is_step q)) (steps d),
      )
      (numbers_agree (in_force t wall_rule) (in_force t low_water_rule) (in_force t roles_rule) (in_force t pipeline_rule)
      (rivals counted class firm && asked) (rank_lacks a b && asks_level q) (compartment_lacks a b && asks_level q)
      (eqb (bit_and holding holders) 0) (not (bit next (p % 64)) && is_step q)))
      (λ d.
      let unknown : (not (has_place q) || (m || n)) ≡ true = parties ∙ ap not d in
      not_declared d ∙ unknown_first _ unknown)
      (decide (declared t q))
