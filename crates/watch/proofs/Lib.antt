pub mod Closed
pub mod Unique
pub mod Watching
