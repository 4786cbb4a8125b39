-- What a request asks of the rules: one that was parsed is refused at once, or asks each rule what it asks about the request.
use Rattle.std.specs.Prelude.{ℕ, ◌<◌, ◌≡◌, Bool, true, false, cond}
use Rattle.std.proofs.Math.Option.{some}
use Rattle.level.specs.declared.Level.{Level}
use Rattle.policy.specs.declared.Tables.{Tables}
use Rattle.policy.specs.Tables.{person_declared, folder_declared}
use Rattle.policy.specs.declared.answer.Refusal.{Refusal}
use Rattle.policy.specs.Refusals.{refusal_number}
use Rattle.policy.specs.Request.{Request, subject}
use Rattle.policy.specs.Rules.{declared, right, wall, wall_access, level_outcome, pipeline_step, pipeline}
use Rattle.request.specs.declared.Parsed.{Parsed}
use Rattle.request.specs.Parsed.{as_request}
use Rattle.questions.specs.declared.asking.Asked.{Asked}
use Rattle.questions.specs.declared.question.Question.{Question}
use Rattle.questions.specs.Asking.{Knows}
use Rattle.questions.specs.Judging.{outcome_if, number_for}

-- a read, a write or a step, which uses a right
unfoldable pub access_asks : Level → Bool → ℕ → Bool → Question
access_asks level raises right steps = record { access = true; raises = raises; level = level; right = right; steps = steps }

-- a start of a person of a level
unfoldable pub start_asks : Level → Question
start_asks level = record { access = false; raises = true; level = level; right = 32; steps = false }

-- what request r of person s asks, where folder o and step p are those that it may name
pub record Posed (t : Tables) (H : Request → Bool) (levels : ℕ → ℕ) (s o p : ℕ) (q : Question) (r : Request) : Type 0 where
  pub parties : declared t r ≡ true
  pub person : subject r ≡ s
  pub known : person_declared t s ≡ true
  pub folder : q.access ≡ true → folder_declared t o ≡ true
  pub walled : wall t H r ≡ cond q.access (wall_access t H s o) true
  pub levelled : level_outcome t levels r ≡ outcome_if q.raises q.level.0 (levels s)
  pub uses : q.right ≡ right t r
  pub stepped : q.steps ≡ true → (p < 16) × (folder_declared t o ≡ true)
  pub piped : pipeline t H r ≡ cond q.steps (pipeline_step t H p o) true

-- a request that was parsed is refused at once with this number, whatever was done
abbrev pub Refuses : Asked → Parsed → (ℕ → ℕ) → Refusal → Type 0
Refuses asked r levels refusal =
    (t : Tables) (H : Request → Bool) → Knows t asked r → refusal_number refusal ≡ number_for t H levels (as_request r)

-- or it asks this
abbrev pub Asks : Asked → Parsed → (ℕ → ℕ) → Question → Type 0
Asks asked r levels q =
    (t : Tables) (H : Request → Bool) (s o : ℕ) → Knows t asked r → s ≡ r.person → o ≡ r.target
    → (request : Request) × (as_request r ≡ some request) × Posed t H levels s o r.step q request
