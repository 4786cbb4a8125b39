pub mod Recorded
pub mod FolderSets
pub mod LevelLaws
pub mod StepLaws
pub mod Joined
pub mod Steppers
pub mod VisitLaws
pub mod GatheringLaws
