pub mod Cases
pub mod Pages
pub mod Printable
pub mod Read
pub mod Shown
pub mod Spelling
pub mod Back
pub mod Unique
