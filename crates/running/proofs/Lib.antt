pub mod ClassOf
pub mod KeptTurns
pub mod TakenTurns
