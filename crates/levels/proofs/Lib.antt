pub mod LevelLaws
pub mod SetLaws
