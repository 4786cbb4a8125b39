pub mod RequestLaws
pub mod WholeLaws
pub mod KindLaws
