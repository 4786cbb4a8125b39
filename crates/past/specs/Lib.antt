pub mod Past
pub mod Turns
pub mod Wall
pub mod Found
