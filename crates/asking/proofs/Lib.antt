pub mod Arguments
pub mod Unique
