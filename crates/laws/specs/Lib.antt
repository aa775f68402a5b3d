pub mod Below
pub mod Digits
pub mod Every
pub mod Fields
pub mod Paper
pub mod Text
pub mod Unique
