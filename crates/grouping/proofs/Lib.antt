pub mod TurningLaws
pub mod AddingLaws
pub mod FolderWords
pub mod GroupLaws
pub mod FillLaws
