pub mod Steps
pub mod Readings
pub mod Entries
