pub mod Judging
pub mod Asking
pub mod Posing
