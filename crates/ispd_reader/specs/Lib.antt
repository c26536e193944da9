pub mod Faults
pub mod Steps
pub mod Header
pub mod Nets
pub mod Adjustments
pub mod DesignText
