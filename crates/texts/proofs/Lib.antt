pub mod Held
pub mod Decimal
pub mod Putting
pub mod Unique
