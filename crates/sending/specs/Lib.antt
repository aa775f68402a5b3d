pub mod Closing
pub mod Private
pub mod Sending
