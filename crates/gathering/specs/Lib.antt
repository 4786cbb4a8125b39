pub mod Users
