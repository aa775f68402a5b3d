pub mod Display
pub mod Pages
pub mod Private
