pub mod Listed
pub mod Searching
pub mod Turns
