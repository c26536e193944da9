pub mod Ranges
pub mod Draws
pub mod Nets
pub mod Texts
pub mod Designs
