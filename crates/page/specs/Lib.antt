pub mod Lawful
pub mod OldForm
pub mod Private
pub mod Reading
pub mod Records
pub mod Writing
