pub mod Answers
pub mod Cases
pub mod Held
pub mod Listing
pub mod Unique
