pub mod AnswerTurns
pub mod CountTurns
pub mod TallyLaws
