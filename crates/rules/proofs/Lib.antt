pub mod RoleLaws
pub mod SetLaws
pub mod ClassLaws
