pub mod Fresh
pub mod Lengths
pub mod Saying
pub mod Unique
pub mod Walking
