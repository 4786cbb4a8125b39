pub mod PackingLaws
pub mod PackedPlans
