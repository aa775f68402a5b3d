pub mod Characters
pub mod Damage
pub mod Hamming
pub mod Heard
pub mod Mended
pub mod Turning
pub mod Unique
pub mod Written
