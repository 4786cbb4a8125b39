pub mod PlannableLaws
pub mod Trials
pub mod Orders
pub mod PlanLaws
pub mod Asked
