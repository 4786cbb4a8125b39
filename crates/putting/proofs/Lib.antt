pub mod Records
pub mod WholeRecords
pub mod Turns
pub mod PutAlone
