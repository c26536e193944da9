pub mod RouteTexts
pub mod Blocks
pub mod Written
