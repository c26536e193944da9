pub mod Calling
pub mod Lines
