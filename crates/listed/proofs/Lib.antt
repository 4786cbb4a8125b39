pub mod Implied
pub mod JobBytes
pub mod StoredSides
pub mod RecordLaws
