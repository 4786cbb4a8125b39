-- What a request asks is found by its kind: one that is refused at once asks nothing, and any other has its request, of declared parties.
use Prim.Native.Nat.{ℕ, ◌%◌}
use mathlib.Core.Path.{◌≡◌}
use mathlib.Core.Bool.{Bool}
use mathlib.Core.Option.{some}
use Rattle.policy.specs.declared.Tables.{Tables}
use Rattle.policy.specs.Tables.{person_at, folder_at}
use Rattle.policy.specs.declared.answer.Refusal.{Refusal}
use Rattle.policy.specs.Refusals.{refusal_number}
use Rattle.policy.specs.Request.{Request}
use Rattle.request.specs.declared.Parsed.{Parsed}
use Rattle.request.specs.Parsed.{as_request}
use Rattle.questions.specs.declared.asking.Asked.{Asked}
use Rattle.questions.specs.declared.question.Question.{Question}
use Rattle.questions.specs.Asking.{asked_of, Knows}
use Rattle.questions.specs.Judging.{number_for}
use Rattle.questions.specs.Posing.{Posed, Refuses, Asks}
use Rattle.questions.proofs.AskingLaws.{asked_knows}

-- what is asked by a question is asked by one that is the same
pub asking : {asked : Asked} {r : Parsed} {levels : ℕ → ℕ} {q q' : Question} → q ≡ q' → Asks asked r levels q' → Asks asked r levels q
asking is asks = rw is asks

-- the request, as the entries at its numbers say
module _ (t : Tables) (H : Request → Bool) (r : Parsed) {s o : ℕ} (person : s ≡ r.person) (target : o ≡ r.target) {asked : Asked}
    (is : asked ≡ asked_of s o (person_at t (s % 64)) (person_at t (o % 64)) (folder_at t (o % 128))) where
  knows : Knows t asked r
  knows = rw is (asked_knows t r person target)

  pub known_number : (levels : ℕ → ℕ) (refusal : Refusal) → Refuses asked r levels refusal
      → refusal_number refusal ≡ number_for t H levels (as_request r)
  known_number levels refusal refuses = refuses t H knows

  pub known_request : (levels : ℕ → ℕ) (q : Question) → Asks asked r levels q
      → (request : Request) × (as_request r ≡ some request) × Posed t H levels s o r.step q request
  known_request levels q asks = asks t H _ _ knows person target
