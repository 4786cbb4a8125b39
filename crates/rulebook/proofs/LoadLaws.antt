-- Loading record by record: as long as records pass, the bytes left and the tables so far come to what the whole book comes to. The
-- definition counts turns down from the length of the book, so it is enough that some number of turns, not less than the bytes left, does.
use Prim.Native.Nat.{ℕ, zero, suc, ◌+◌, ◌-◌, ◌≤◌, ◌<◌}
use native.Mathlib.Numerals.{add-one}
use native.Mathlib.Omega.{arith}
use mathlib.Core.Bool.{cond, not}
use mathlib.Core.List.{List, [], ◌∷◌}
use mathlib.Core.Logic.{⊎_elim}
use mathlib.Core.Path.{◌≡◌, refl, sym, ap, ◌∙◌, subst₂}
use lib.Dec.{eqb, ltb}
use lib.ListN.{length, get_or, drop, drop_of_length-le}
use lib.Seq.{drop-cons, drop-drop}
use borrow.Author.Tests.{lt-ltb, le-ltb, ltb-true, ltb-false, eq-eqb, ne_eqb}
use Rattle.bits.proofs.Booleans.{decide}
use Rattle.policy.specs.declared.answer.Refusal.{Refusal}
use Rattle.policy.specs.declared.answer.Refusal.TheVariants.{
  BookCut,
  UnknownKind,
  MisplacedRules,
  OutOfRange,
  DeclaredBefore,
  FirmNotDeclared,
  EntersCreate,
  Circle,
  LooseStep,
  WrongLength,
  NotGiven,
  RequestCut,
  Undeclared,
  Wall,
  RankTooLow,
  Roles,
  Pipeline,
  TooFewAnswers,
  FolderNotDeclared,
  WrongLevelsLength,
  CompartmentMissing,
  NotPlannable,
  NoOrder,
}
use Rattle.policy.specs.Refusals.{refusal_number}
use Rattle.policy.specs.declared.Tables.{Tables}
use Rattle.policy.specs.Tables.{empty_tables}
use Rattle.policy.specs.Checks.{◌else◌, ladder}
use Rattle.policy.specs.Rulebook.{Record, end, body_length, record_of, declare, refused_book, ended, load_from, load_book}
use Rattle.rulebook.specs.declared.records.Reading.{Reading}
use Rattle.rulebook.specs.Readings.{record_read, kind_of, form_number, ReadAt, table_number, number_at}
use Rattle.rulebook.specs.Steps.{circle_in, loose_in}
use Rattle.rulebook.proofs.NumberLaws.{number_is, refused_number, end_number}
use Rattle.rulebook.proofs.StepLaws.{end_is}

-- some number of turns over the bytes from an offset on, after the tables t, gives what the whole book gives
pub record Left (book : List ℕ) (at : ℕ) (t : Tables) : Type 0 where
  pub turns : ℕ
  pub enough : length book ≤ at + turns
  pub same : load_from turns at (drop at book) t ≡ load_book book

pub starts : (book : List ℕ) → Left book 0 empty_tables
unfolding load_book
starts book = record { turns = length book; enough = omega arith; same = refl }

-- ---- one turn of the definition

module _ (book : List ℕ) (at : ℕ) (t : Tables) where
  kind : ℕ
  kind = get_or book at 0

  body : List ℕ
  body = drop (at + 1) book

  -- no byte is left
  over : (n : ℕ) → length book ≤ at → load_from n at (drop at book) t ≡ refused_book (number_at book at t) at
  unfolding load_from number_at
  over zero l = rw (le-ltb _ _ l)
  over (suc n) l = rw (drop_of_length-le book l, le-ltb _ _ l)

  turn : (n : ℕ) → at < length book
      → load_from (suc n) at (drop at book) t
      ≡ cond (eqb (number_at book at t) 0)
      (cond (eqb kind 0)
      (ended at t)
      (load_from n (at + 1 + body_length kind) (drop (at + 1 + body_length kind) book) (declare t (record_of kind body))))
      (refused_book (number_at book at t) at)
  unfolding load_from number_at kind body
  turn n l = rw (drop-cons book at 0 l, lt-ltb _ _ l, ← add-one at, drop-drop (body_length (get_or book at 0)) (at + 1) book)

  refuses : (n : ℕ) → length book ≤ at + n → (number_at book at t ≡ 0 → ⊥)
      → load_from n at (drop at book) t ≡ refused_book (number_at book at t) at
  refuses zero e z = over zero (omega arith)
  refuses (suc n) e z =
      ⊎_elim (λ l. turn n (ltb-true _ _ l) ∙ rw (ne_eqb _ _ z)) (λ l. over (suc n) (ltb-false _ _ l))
      (decide (ltb at (length book)))

  module _ (there : at < length book) (passed : number_at book at t ≡ 0) where
    ends : (n : ℕ) → length book ≤ at + n → kind ≡ 0 → load_from n at (drop at book) t ≡ ended at t
    ends zero e z = absurd (omega arith)
    ends (suc n) e z = turn n there ∙ rw (eq-eqb _ _ passed, eq-eqb _ _ z)

    goes : (n : ℕ) → length book ≤ at + n → load_from n at (drop at book) t ≡ load_book book → (kind ≡ 0 → ⊥)
        → Left book (at + 1 + body_length kind) (declare t (record_of kind body))
    goes zero e q z = absurd (omega arith)
    goes (suc n) e q z =
        record {
          turns = n;
          enough = omega arith;
          same = rw (eq-eqb _ _ passed, ne_eqb _ _ z) at (sym (turn n there)) ∙ q;
        }

-- ---- a turn of the loop

-- no refusal has the number 0
pub refuses_some : (refusal : Refusal) → refusal_number refusal ≡ 0 → ⊥
refuses_some = elim [
  | BookCut ↦ λ z. omega (arith, z)
  | UnknownKind ↦ λ z. omega (arith, z)
  | MisplacedRules ↦ λ z. omega (arith, z)
  | OutOfRange ↦ λ z. omega (arith, z)
  | DeclaredBefore ↦ λ z. omega (arith, z)
  | FirmNotDeclared ↦ λ z. omega (arith, z)
  | EntersCreate ↦ λ z. omega (arith, z)
  | Circle ↦ λ z. omega (arith, z)
  | LooseStep ↦ λ z. omega (arith, z)
  | WrongLength ↦ λ z. omega (arith, z)
  | NotGiven ↦ λ z. omega (arith, z)
  | RequestCut ↦ λ z. omega (arith, z)
  | Undeclared ↦ λ z. omega (arith, z)
  | Wall ↦ λ z. omega (arith, z)
  | RankTooLow ↦ λ z. omega (arith, z)
  | Roles ↦ λ z. omega (arith, z)
  | Pipeline ↦ λ z. omega (arith, z)
  | TooFewAnswers ↦ λ z. omega (arith, z)
  | FolderNotDeclared ↦ λ z. omega (arith, z)
  | WrongLevelsLength ↦ λ z. omega (arith, z)
  | CompartmentMissing ↦ λ z. omega (arith, z)
  | NotPlannable ↦ λ z. omega (arith, z)
  | NoOrder ↦ λ z. omega (arith, z)
]

-- a record that is refused without the tables
pub refused_by_form : {book : List ℕ} {at : ℕ} {t : Tables} {n : ℕ} → Left book at t → n ≡ form_number book at → (n ≡ 0 → ⊥)
    → refused_book n at ≡ load_book book
refused_by_form {book} {at} {t} left is z =
    let number = refused_number book at is z t in
    ap (λ (m : ℕ). refused_book m at) number ∙ sym (refuses book at t left.turns left.enough (λ e. z (number ∙ e))) ∙ left.same

module _ {book : List ℕ} {at : ℕ} {t : Tables} {r : Reading} (left : Left book at t) (read : ReadAt book at r) where
  pub refused_is : {n : ℕ} → n ≡ table_number t (record_read r.found) → (n ≡ 0 → ⊥) → refused_book n at ≡ load_book book
  refused_is is z =
      let number = is ∙ number_is read t in
      ap (λ (m : ℕ). refused_book m at) number
      ∙ sym (refuses book at t left.turns left.enough (λ e. z (number ∙ e)))
      ∙ left.same

  pub less : length book - r.next < length book - at
  less = omega (arith, read.there, read.next)

  module _ (z : table_number t (record_read r.found) ≡ 0) where
    none_at : number_at book at t ≡ 0
    none_at = sym (number_is read t) ∙ z

    ended_is : kind_of (record_read r.found) ≡ 0 → ended at t ≡ load_book book
    unfolding kind
    ended_is e =
        sym (ends book at t read.there none_at left.turns left.enough (sym read.same_kind ∙ e)) ∙ left.same

    pub goes_on : (kind_of (record_read r.found) ≡ 0 → ⊥) → Left book r.next (declare t (record_read r.found))
    unfolding kind body
    goes_on e =
        subst₂ (λ (i : ℕ) (y : Record). Left book i (declare t y)) (sym read.next) (sym read.same)
        (goes book at t read.there none_at left.turns left.enough left.same (λ k. e (read.same_kind ∙ k)))

  -- the end record asks nothing of the tables before its own checks
  pub ended_by : record_read r.found ≡ end → ended at t ≡ load_book book
  ended_by e = ended_is (ap (table_number t) e ∙ sym (end_number t)) (ap kind_of e)

-- ---- the checks of the end record

module _ (at : ℕ) (t : Tables) {n : ℕ} (is : n ≡ ladder ((not (circle_in t.steps) else 8) ∷ (not (loose_in t.steps) else 9) ∷ [])) where
  pub ended_refused : (n ≡ 0 → ⊥) → ended at t ≡ refused_book n at
  unfolding ended
  ended_refused z = rw (← is ∙ end_is t, ne_eqb _ _ z)

  pub ended_passed : n ≡ 0 → ended at t ≡ record { number = 0; offset = at; tables = t }
  unfolding ended
  ended_passed z = rw (← is ∙ end_is t, z)
