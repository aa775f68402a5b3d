pub mod Lines
pub mod Next
pub mod Room
pub mod Rows
pub mod Storing
pub mod Unique
pub mod Whole
