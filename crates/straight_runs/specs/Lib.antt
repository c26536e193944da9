pub mod Lows
pub mod Ends
pub mod Routed
