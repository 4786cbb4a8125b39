pub mod Pairs
pub mod Records
