pub mod Sets
pub mod Kept
