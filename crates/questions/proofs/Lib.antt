pub mod JudgingLaws
pub mod Deciding
pub mod AskingLaws
pub mod Posings
pub mod Answered
