-- Every call's number is a published one, because each is the number of an ordered list of checks, whose numbers are written in it, and the
-- first checks of every call are blank's; and a book comes to a refusal with a published number, or to tables with the number 0.
use Prim.Native.Nat.{ℕ, zero, suc, ◌+◌}
use mathlib.Core.Path.{◌≡◌, refl, sym, ◌∙◌}
use mathlib.Core.Logic.{◌≢◌}
use mathlib.Core.Bool.{Bool, true}
use mathlib.Core.List.Memᴰ
use mathlib.Core.List.{List, [], ◌∷◌, ◌++◌, Memᴰ}
use mathlib.Core.Option.{Option, none, some}
use lib.Dec.{eqb}
use borrow.Author.Tests.{eqb-true, eq-eqb, ne_eqb}
use lib.ListN.{length, drop}
use Rattle.level.specs.declared.Comparison.{Comparison}
use Rattle.level.specs.declared.Comparison.TheVariants.{AtMost, RankTooLow, CompartmentMissing}
use Rattle.policy.specs.declared.Tables.{Tables}
use Rattle.policy.specs.declared.Loaded.{Loaded}
use Rattle.policy.specs.declared.Ran.{Ran}
use Rattle.policy.specs.declared.Standing.{Standing}
use Rattle.policy.specs.Checks.{ladder}
use Rattle.policy.specs.Rulebook.{
  body_length,
  record_of,
  record_checks,
  declare,
  end_checks,
  refused_book,
  ended,
  load_from,
  load_book,
}
use Rattle.policy.specs.History.{history_bytes}
use Rattle.policy.specs.Request.{Request, request_of}
use Rattle.policy.specs.Levels.{levels_bytes}
use Rattle.policy.specs.Rules.{level_outcome}
use Rattle.policy.specs.Calls.{
  State,
  blank_number,
  outcome_number,
  request_checks,
  call_checks,
  judge_number,
  run_number,
  ran,
  standing_number,
  standing,
}
use Rattle.policy.specs.Demands.{Numbers, Beginnings}
use Rattle.bits.proofs.Booleans.{by_test}
use Rattle.policy.proofs.Ladders.{numbered, ladder_member, all_stand_in, all_stand_in_lem}
use Rattle.policy.proofs.CallChecks.{refused_first}

-- ---- no check has the number 0

pub record_numbered : (at : ℕ) (t : Tables) (kind : ℕ) (body : List ℕ) → numbered (record_checks at t kind body) ≡ true
unfolding record_checks
record_numbered at t kind body = refl

pub end_numbered : (t : Tables) → numbered (end_checks t) ≡ true
unfolding end_checks
end_numbered t = refl

-- ---- loading

-- the numbers of a refused book, and 0
abbrev pub book_numbers : List ℕ
book_numbers = 0 ∷ 1 ∷ 2 ∷ 3 ∷ 4 ∷ 5 ∷ 6 ∷ 7 ∷ 8 ∷ 9 ∷ 19 ∷ []

-- what holds of every refusal, and of all tables with the number 0, holds of what a book comes to
module _ (P : Loaded → Type 0) (refusal : (n at : ℕ) → Memᴰ n book_numbers → P (refused_book n at))
    (loaded : (at : ℕ) (t : Tables) → P (record { number = 0; offset = at; tables = t }))
  where
    pub load_cases : (n at : ℕ) (bytes : List ℕ) (t : Tables) → P (load_from n at bytes t)
    unfolding load_from ended record_checks end_checks
    load_cases zero at bytes t = refusal 1 at (Memᴰ.tail (Memᴰ.head refl))
    load_cases (suc n) at [] t = refusal 1 at (Memᴰ.tail (Memᴰ.head refl))
    load_cases (suc n) at (kind ∷ body) t =
        by_test P (eqb (ladder (record_checks at t kind body)) 0) _ _
        (λ e. by_test P (eqb kind 0) _ _
        (λ e. by_test P (eqb (ladder (end_checks t)) 0) _ _ (λ e. loaded at t)
        (λ f. refusal _ at (all_stand_in_lem book_numbers _ _ refl (ladder_member (end_checks t)))))
        (λ f. load_cases n (at + 1 + body_length kind) (drop (body_length kind) body) (declare t (record_of kind body))))
        (λ f. refusal _ at (all_stand_in_lem book_numbers _ _ refl (ladder_member (record_checks at t kind body))))

-- ---- every number

-- each number of the checks of judging, with that of an outcome, is one of these
abbrev judge_numbers : List ℕ
judge_numbers = 0 ∷ 10 ∷ 20 ∷ 11 ∷ 12 ∷ 13 ∷ 14 ∷ 15 ∷ 21 ∷ 16 ∷ 17 ∷ []

all_stand : (c : Comparison) → all_stand_in judge_numbers (0 ∷ 10 ∷ 20 ∷ 11 ∷ 13 ∷ 14 ∷ outcome_number c ∷ 16 ∷ 17 ∷ []) ≡ true
unfolding outcome_number
all_stand AtMost = refl
all_stand RankTooLow = refl
all_stand CompartmentMissing = refl

judge_number_lem : (t : Tables) (a : State) (H : Request → Bool) (levels : ℕ → ℕ) (r : Option Request)
    → Memᴰ (ladder (call_checks t a ++ request_checks t H levels r)) judge_numbers
unfolding call_checks request_checks
judge_number_lem t a H levels none = all_stand_in_lem _ _ _ refl (ladder_member (call_checks t a ++ request_checks t H levels none))
judge_number_lem t a H levels (some r) =
    all_stand_in_lem _ _ _ (all_stand (level_outcome t levels r)) (ladder_member (call_checks t a ++ request_checks t H levels (some r)))

-- the number that a run, and a standing, has is the number of its checks
pub ran_number : (t : Tables) (a : State) (requests answers : List ℕ) → (ran t a requests answers).number ≡ run_number t a requests answers
unfolding ran
ran_number t a requests answers =
    by_test (λ (r : Ran). r.number ≡ run_number t a requests answers) (eqb (run_number t a requests answers) 0) _ _
    (λ e. sym (eqb-true (run_number t a requests answers) 0 e)) (λ e. refl)

pub standing_number_lem : (t : Tables) (a : State) (s : ℕ) → (standing t a s).number ≡ standing_number t a s
unfolding standing
standing_number_lem t a s =
    by_test (λ (r : Standing). r.number ≡ standing_number t a s) (eqb (standing_number t a s) 0) _ _
    (λ e. sym (eqb-true (standing_number t a s) 0 e)) (λ e. refl)

pub numbers : Numbers
unfolding blank_number call_checks load_book refused_book judge_number run_number standing_number
numbers =
    record {
      blank = λ t a. ladder_member _;
      load =
          λ book. load_cases (λ l. Memᴰ l.number book_numbers) (λ n at i. i) (λ at t. Memᴰ.head refl) (length book) 0 book _;
      judge = λ t a bytes. judge_number_lem t a _ _ (request_of bytes);
      run = λ t a requests answers. Memᴰ.cast (ran_number t a requests answers) (ladder_member _);
      standing = λ t a s. Memᴰ.cast (standing_number_lem t a s) (ladder_member _);
    }

-- ---- the checks that every call begins with

module _ (t : Tables) (a : State) (n : blank_number t a ≢ 0) where
  judge_first : (bytes : List ℕ) → judge_number t a bytes ≡ blank_number t a
  unfolding judge_number blank_number
  judge_first bytes = refused_first t a _ n

  run_first : (requests answers : List ℕ) → run_number t a requests answers ≡ blank_number t a
  unfolding run_number blank_number
  run_first requests answers = refused_first t a _ n

  standing_first : (s : ℕ) → standing_number t a s ≡ blank_number t a
  unfolding standing_number blank_number
  standing_first s = refused_first t a _ n

pub beginnings : Beginnings
unfolding blank_number call_checks ladder
beginnings =
    record {
      ten = λ t a n. rw (ne_eqb (length a.history) history_bytes n);
      twenty = λ t a size n. rw (eq-eqb (length a.history) history_bytes size, ne_eqb (length a.levels) levels_bytes n);
      judge = λ t a bytes n. judge_first t a n bytes;
      run = λ t a requests answers n. ran_number t a requests answers ∙ run_first t a n requests answers;
      standing = λ t a s n. standing_number_lem t a s ∙ standing_first t a n s;
    }
