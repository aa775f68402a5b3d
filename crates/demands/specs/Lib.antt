pub mod Chains
pub mod Demands
pub mod Marked
pub mod Mended
pub mod Recorded
pub mod Runs
pub mod Worked
