pub mod Field
pub mod Search
pub mod Private
