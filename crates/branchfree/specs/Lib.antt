pub mod Kinds
pub mod Failing
