mod Reorderings
mod Jobs
mod Granting
mod Exchange
mod Waiting
pub mod Precedence
