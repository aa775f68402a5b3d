pub mod Addresses
pub mod Back
pub mod Headers
pub mod Lines
pub mod Sent
pub mod Texts
pub mod Writing
