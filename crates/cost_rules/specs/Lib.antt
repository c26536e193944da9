pub mod Formulas
pub mod Watching
pub mod Prices
