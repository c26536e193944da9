pub mod Prices
pub mod Ranks
pub mod Laws
