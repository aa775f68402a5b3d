pub mod Bits
pub mod Characters
pub mod Hamming
pub mod Heard
