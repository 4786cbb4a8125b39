pub mod FirmLaws
pub mod CountLaws
