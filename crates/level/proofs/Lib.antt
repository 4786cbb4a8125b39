pub mod Comparing
pub mod LevelLaws
pub mod OrderLaws
pub mod Meets
pub mod SetLaws
