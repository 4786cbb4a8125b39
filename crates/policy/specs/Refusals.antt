-- The published numbers (document 01's table of causes, and document 02's numbers from 19 on): what each refusal is answered with.
use Rattle.std.specs.Prelude.{ℕ, Result, Ok, Err}
use Rattle.policy.specs.declared.answer.Refusal.{Refusal}
use Rattle.policy.specs.declared.answer.Refusal.TheVariants.{
  BookCut,
  UnknownKind,
  MisplacedRules,
  OutOfRange,
  DeclaredBefore,
  FirmNotDeclared,
  EntersCreate,
  Circle,
  LooseStep,
  WrongLength,
  NotGiven,
  RequestCut,
  Undeclared,
  Wall,
  RankTooLow,
  Roles,
  Pipeline,
  TooFewAnswers,
  FolderNotDeclared,
  WrongLevelsLength,
  CompartmentMissing,
  NotPlannable,
  NoOrder,
}

abbrev pub refusal_number : Refusal → ℕ
refusal_number BookCut = 1
refusal_number UnknownKind = 2
refusal_number MisplacedRules = 3
refusal_number OutOfRange = 4
refusal_number DeclaredBefore = 5
refusal_number FirmNotDeclared = 6
refusal_number EntersCreate = 7
refusal_number Circle = 8
refusal_number LooseStep = 9
refusal_number WrongLength = 10
refusal_number NotGiven = 11
refusal_number RequestCut = 12
refusal_number Undeclared = 13
refusal_number Wall = 14
refusal_number RankTooLow = 15
refusal_number Roles = 16
refusal_number Pipeline = 17
refusal_number TooFewAnswers = 18
refusal_number FolderNotDeclared = 19
refusal_number WrongLevelsLength = 20
refusal_number CompartmentMissing = 21
refusal_number NotPlannable = 22
refusal_number NoOrder = 23

-- the number of an answer: 0 where nothing refuses
abbrev pub number_of : Result Unit Refusal → ℕ
number_of (Ok _) = 0
number_of (Err refusal) = refusal_number refusal
