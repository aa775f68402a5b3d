pub mod Chosen
pub mod Private
