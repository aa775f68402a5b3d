pub mod Answers
pub mod AnyRows
pub mod Checks
pub mod Copies
mod Filled
pub mod Forms
pub mod Heads
pub mod Loading
pub mod Papers
pub mod ReaderSteps
pub mod Rows
pub mod Storing
pub mod Trips
pub mod TwoForms
pub mod Unique
pub mod WriterSteps
