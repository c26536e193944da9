pub mod Worlds
pub mod WorldRules
pub mod WorldStore
