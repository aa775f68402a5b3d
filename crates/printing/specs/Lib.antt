pub mod Printed
pub mod Pages
pub mod Letters
pub mod Back
pub mod Private
