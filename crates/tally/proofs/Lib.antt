pub mod Cases
pub mod Tallying
pub mod Unique
