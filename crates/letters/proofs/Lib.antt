pub mod National
pub mod Writing
pub mod Reading
pub mod AllSets
pub mod Cases
pub mod Unique
