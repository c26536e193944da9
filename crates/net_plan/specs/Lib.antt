pub mod Prices
pub mod Sites
pub mod FlatPrices
pub mod Orders
pub mod FlatTrees
pub mod Patterns
pub mod Mazes
