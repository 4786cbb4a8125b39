pub mod FewerLaws
pub mod KeptLaws
pub mod GrantLaws
pub mod Deciding
pub mod Known
pub mod PutLaws
pub mod Puts
