pub mod UserLaws
pub mod RoleLaws
pub mod GatheredLaws
