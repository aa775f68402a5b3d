pub mod Cells
pub mod Private
