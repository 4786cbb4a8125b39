pub mod Booleans
pub mod Bounds
pub mod BitLaws
pub mod Masks
pub mod LowestBit
pub mod SetFolds
pub mod FillingLaws
