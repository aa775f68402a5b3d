pub mod Back
pub mod Bits
pub mod Groups
pub mod Moves
pub mod Places
pub mod Splits
pub mod Unique
pub mod Values
