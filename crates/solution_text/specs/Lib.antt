pub mod Faults
pub mod Runs
pub mod Covers
pub mod Grammar
pub mod Cover
pub mod WrittenText
pub mod Laws
