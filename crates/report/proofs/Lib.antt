pub mod DecimalLaws
pub mod Examples
pub mod FillingLaws
pub mod LineLaws
pub mod PutLaws
