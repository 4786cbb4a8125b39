-- A request is judged by what is known of it: tests and sets that say of each rule in force what the rule's definition says. A rule that is
-- not in force refuses nothing, so nothing needs to be known for it. Where the sets come from does not matter here.
use Prim.Native.Nat.{ℕ, ◌+◌, ◌<◌}
use native.Mathlib.Omega.{arith}
use mathlib.Core.Path.{◌≡◌, refl, sym, ap, ◌∙◌}
use mathlib.Core.Logic.{◌≢◌}
use mathlib.Core.Bool.{Bool, true, false, cond, ◌&&◌, and-true}
use Rattle.bits.specs.Bits.{bit}
use Rattle.bits.specs.Bounded.{◌implies◌}
use Rattle.bits.proofs.Booleans.{and_both, false_elim}
use Rattle.level.specs.declared.Comparison.{Comparison}
use Rattle.level.specs.declared.Level.{Level}
use Rattle.policy.specs.declared.Folder.{Folder}
use Rattle.policy.specs.declared.Tables.{Tables}
use Rattle.policy.specs.Tables.{folder_at, person_declared, folder_declared, in_force, wall_rule, roles_rule, pipeline_rule}
use Rattle.policy.specs.Request.{Request, start, step, subject}
use Rattle.policy.specs.Rules.{declared, right, wall, wall_access, modify_outcome, level_outcome, roles, pipeline_step, pipeline}
use Rattle.policy.proofs.Requests.{step_declared}
use Rattle.request.specs.Parsed.{access_by}
use Rattle.questions.specs.declared.question.Question.{Question}
use Rattle.questions.specs.Judging.{outcome_if, number_of, access_right, judged}
use Rattle.questions.specs.Posing.{access_asks, start_asks, Posed}
use Rattle.questions.proofs.JudgingLaws.{
  implies_true,
  refused_first,
  roles_refuse,
  roles_pass,
  refused_three,
  passed_three,
  by_checks,
}

-- a rule that is in force says what its definition says; of another one nothing is known
same_if : (on b b' : Bool) → (on ≡ true → b ≡ b') → (on implies b) ≡ (on implies b')
same_if true b b' e = e refl
same_if false b b' e = refl

-- ---- what is known of a request

-- the tests that decide a request of declared parties, each as its rule says if the rule is in force
pub record Decides (t : Tables) (H : Request → Bool) (levels : ℕ → ℕ) (r : Request) (mask : ℕ) (w : Bool) (c : Comparison) (k p : Bool)
    : Type 0
  where
    pub parties : declared t r ≡ true
    pub rules : mask ≡ t.mask
    pub wall_says : in_force t wall_rule ≡ true → w ≡ wall t H r
    pub outcome : c ≡ level_outcome t levels r
    pub roles_say : in_force t roles_rule ≡ true → k ≡ roles t H r
    pub pipeline_says : in_force t pipeline_rule ≡ true → p ≡ pipeline t H r

module _ {t : Tables} {H : Request → Bool} {levels : ℕ → ℕ} {r : Request} {mask : ℕ} {w : Bool} {c : Comparison} {k p : Bool} where
  -- its number is that of the definitions
  whole : Decides t H levels r mask w c k p → number_of mask w c k p ≡ judged t H levels r
  unfolding number_of in_force
  whole d =
      rw (
        d.rules,
        same_if (bit t.mask wall_rule) w (wall t H r) d.wall_says,
        d.outcome,
        same_if (bit t.mask roles_rule) k (roles t H r) d.roles_say,
        same_if (bit t.mask pipeline_rule) p (pipeline t H r) d.pipeline_says,
      )
      (sym (by_checks t H levels r d.parties))

  -- a refusal by wall, low-water or roles
  pub three_refuse : {n : ℕ} → Decides t H levels r mask w c k p → n ≡ number_of mask w c k true → n ≢ 0 → n ≡ judged t H levels r
  three_refuse d e other = sym (refused_three mask w k p c e other) ∙ whole d

  -- what the pipeline says is left
  pub pipeline_decides : {n x : ℕ} → Decides t H levels r mask w c k p → n ≡ number_of mask w c k true → n ≡ 0
      → x ≡ cond (bit mask pipeline_rule implies p) 0 17 → x ≡ judged t H levels r
  pipeline_decides d passed zero e = e ∙ sym (passed_three mask w k p c (sym zero ∙ passed)) ∙ whole d

-- ---- one request alone

-- what a request asks is known: wall and low-water first, then roles, then the pipeline
module _ {t : Tables} {H : Request → Bool} {levels : ℕ → ℕ} {s o p : ℕ} {q : Question} {r : Request} (posed : Posed t H levels s o p q r)
    {n stored : ℕ} {w : Bool} (walls : w ≡ cond (q.access && bit t.mask wall_rule) (wall_access t H s o) true)
    (level : stored ≡ levels s) (first : n ≡ number_of t.mask w (outcome_if q.raises q.level.0 stored) true true) where
  posed_wall : in_force t wall_rule ≡ true → w ≡ wall t H r
  unfolding in_force
  posed_wall on =
      walls ∙ ap (λ (b : Bool). cond b (wall_access t H s o) true) (ap (λ (b : Bool). q.access && b) on ∙ and-true q.access)
      ∙ sym posed.walled

  decides : Decides t H levels r t.mask w (outcome_if q.raises q.level.0 stored) (roles t H r) (pipeline t H r)
  decides =
      record {
        parties = posed.parties;
        rules = refl;
        wall_says = posed_wall;
        outcome = rw level (sym posed.levelled);
        roles_say = λ on. refl;
        pipeline_says = λ on. refl;
      }

  pub first_refuses : n ≢ 0 → n ≡ judged t H levels r
  first_refuses other = sym (refused_first t.mask w (roles t H r) (pipeline t H r) _ first other) ∙ whole decides

  pub then_roles : n ≡ 0 → (bit t.mask roles_rule implies roles t H r) ≡ false → 16 ≡ judged t H levels r
  then_roles zero off =
      three_refuse decides (roles_refuse t.mask w (roles t H r) true _ (sym zero ∙ first) off) (λ e. let z : ⊥ = omega arith in z)

  then_pipeline : {x : ℕ} → n ≡ 0 → (bit t.mask roles_rule implies roles t H r) ≡ true
      → x ≡ cond (bit t.mask pipeline_rule implies pipeline t H r) 0 17 → x ≡ judged t H levels r
  then_pipeline zero on is =
      pipeline_decides decides (roles_pass t.mask w (roles t H r) true _ (sym zero ∙ first) on) refl is

  -- the pipeline is asked about the step
  pub then_step : {x : ℕ} {permits : Bool} → n ≡ 0 → (bit t.mask roles_rule implies roles t H r) ≡ true → q.steps ≡ true
      → permits ≡ pipeline_step t H p o → x ≡ cond (bit t.mask pipeline_rule implies permits) 0 17 → x ≡ judged t H levels r
  then_step zero on steps says is =
      let same = says ∙ sym (posed.piped ∙ ap (λ (b : Bool). cond b (pipeline_step t H p o) true) steps) in
      then_pipeline zero on (is ∙ ap (λ (b : Bool). cond (bit t.mask pipeline_rule implies b) 0 17) same)

  -- it is not asked
  pub then_granted : n ≡ 0 → (bit t.mask roles_rule implies roles t H r) ≡ true → q.steps && bit t.mask pipeline_rule ≡ false
      → 0 ≡ judged t H levels r
  then_granted zero on off = then_pipeline zero on (sym (ap (λ (b : Bool). cond b 0 17) (unasked q.steps posed.piped off)))
    where
      unasked : (steps : Bool) → pipeline t H r ≡ cond steps (pipeline_step t H p o) true → steps && bit t.mask pipeline_rule ≡ false
          → (bit t.mask pipeline_rule implies pipeline t H r) ≡ true
      unasked true is n = rw n
      unasked false is n = rw is (implies_true (bit t.mask pipeline_rule))

-- ---- what each kind of request asks

module _ (t : Tables) (H : Request → Bool) (levels : ℕ → ℕ) (s : ℕ) (known : person_declared t s ≡ true) where
  module _ (o : ℕ) {e : Folder} (folder : folder_declared t o ≡ true) (entry : e ≡ folder_at t o) (p : ℕ) where
    pub access_posed : (writes : Bool) {x : ℕ} → x ≡ access_right writes e.kind
        → Posed t H levels s o p (access_asks e.level writes x false) (access_by writes s o)
    unfolding access_asks access_by access_right outcome_if declared wall level_outcome modify_outcome right subject pipeline
    access_posed true uses =
        record {
          parties = and_both _ _ known folder;
          person = refl;
          known = known;
          folder = λ on. folder;
          walled = refl;
          levelled = rw entry;
          uses = uses ∙ rw entry;
          stepped = λ on. absurd (false_elim false refl on);
          piped = refl;
        }
    access_posed false uses =
        record {
          parties = and_both _ _ known folder;
          person = refl;
          known = known;
          folder = λ on. folder;
          walled = refl;
          levelled = refl;
          uses = uses ∙ rw entry;
          stepped = λ on. absurd (false_elim false refl on);
          piped = refl;
        }

    pub step_posed : p < 16 → Posed t H levels s o p (access_asks e.level true (48 + p) true) (step s p o)
    unfolding access_asks outcome_if wall level_outcome modify_outcome right subject pipeline
    step_posed below =
        record {
          parties = step_declared t s p o known below folder;
          person = refl;
          known = known;
          folder = λ on. folder;
          walled = refl;
          levelled = rw entry;
          uses = refl;
          stepped = λ on. (below, folder);
          piped = refl;
        }

  pub start_posed : (u p : ℕ) {level : Level} → person_declared t u ≡ true → level.0 ≡ levels u
      → Posed t H levels s u p (start_asks level) (start s u)
  unfolding start_asks outcome_if declared wall level_outcome right subject pipeline
  start_posed u p second is =
      record {
        parties = and_both _ _ known second;
        person = refl;
        known = known;
        folder = λ on. absurd (false_elim false refl on);
        walled = refl;
        levelled = rw is;
        uses = refl;
        stepped = λ on. absurd (false_elim false refl on);
        piped = refl;
      }
