pub mod HistoryLaws
pub mod WordLaws
