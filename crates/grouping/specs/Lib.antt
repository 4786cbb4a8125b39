pub mod Turning
pub mod Adding
pub mod Groups
