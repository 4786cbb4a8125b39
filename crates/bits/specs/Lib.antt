pub mod Bounded
pub mod Bits
pub mod Filling
pub mod Lowest
