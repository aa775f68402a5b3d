pub mod Cases
pub mod Ends
pub mod Steps
pub mod Unique
pub mod Units
pub mod Walk
