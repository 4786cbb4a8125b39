pub mod KindLaws
pub mod FailingLaws
pub mod UpdateLaws
