pub mod Gathered
pub mod AccessRights
pub mod FoundLaws
pub mod PastLaws
pub mod WallLaws
