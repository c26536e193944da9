pub mod Kept
pub mod Keepers
pub mod Cuts
