pub mod Cases
pub mod Marks
pub mod Numbers
pub mod Rows
pub mod Spans
pub mod Unique
