pub mod TallyIs
pub mod Counted
pub mod Raised
