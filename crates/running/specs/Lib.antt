pub mod Kept
pub mod Taking
pub mod Written
