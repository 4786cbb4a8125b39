pub mod Levels
pub mod Order
pub mod Sets
