pub mod Cells
pub mod Effects
pub mod Entries
pub mod Kinds
pub mod Mended
pub mod Private
pub mod Recordings
pub mod Selections
