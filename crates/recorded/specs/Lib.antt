pub mod Folders
pub mod Recorded
pub mod Levels
pub mod Gathering
pub mod Visits
